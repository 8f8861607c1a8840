use Rattle.std.proofs.Common.{ℕ, List, [], Option, sym, ap, ◌∙◌, unwrap_or}
use Rattle.std.proofs.lemmas.Option.{unwrap_or-slice_get}
use Rattle.std.proofs.lemmas.Result.{IfOk-weaker}
use Rattle.map_net.specs.Mapping.{name_of}
use Rattle.map_net.proofs.placing.signal_name.Goals as goal

pub returns-in-Leaf : goal.returns-in-Leaf
returns-in-Leaf c =
    IfOk-weaker c.copied_or_empty.result _ _
    (λ name is. is
    ∙ (ap (λ (found : Option (List ℕ)). unwrap_or found []) c.name.ensures
    ∙ (unwrap_or-slice_get c.args.leaves.now c.in-Leaf.place []
    ∙ ap (name_of c.args.leaves.now c.args.driven.now) (sym c.in-Leaf.is))))
    c.copied_or_empty.ensures
