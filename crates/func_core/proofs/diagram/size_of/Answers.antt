use Rattle.std.proofs.Common.{◌≡◌, length, sym, ◌∙◌, Bor, rules}
use Rattle.std.proofs.lemmas.List.{length-map}
use Rattle.func_core.specs.Sizes.{size}
use Rattle.func_core.specs.PlainTrees.{shape}
use Rattle.func_core.specs.declared.diagram.Diagram.{Diagram}
use Rattle.func_core.proofs.Sizes.{size-collected}
use Rattle.func_core.proofs.diagram.size_of.Goals as goal

pub returns : goal.returns
returns c =
    let count : length c.in_ok-seen.seen.items ≡ size (shape c.args.tree.now) =
    sym (length-map c.in_ok-seen.seen.items (λ (d : Bor Diagram). shape d.now))
    ∙ size-collected _ _ (rw c.new.ensures.items at c.in_ok-seen.ensures) in
    search rules
