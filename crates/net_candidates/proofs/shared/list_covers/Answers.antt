use Rattle.std.proofs.Common.{◌≡◌, List, [], ◌++◌, rules, sym, ap, ◌∙◌}
use Rattle.std.proofs.lemmas.List.{append-nil}
use Rattle.cover_names.specs.Literals.{NamedCover}
use Rattle.net_candidates.proofs.shared.list_covers.Goals as goal

pub returns : goal.returns
returns c =
    let none : c.loop-cover.cover-iterator ≡ [] = search rules in
    sym (append-nil c.loop-cover.made.items) ∙ (ap (λ (rest : List NamedCover). c.loop-cover.made.items ++ rest) (sym none) ∙ (c.loop-cover.invariant ∙ c.into_iter-cover-iterator.ensures.into_iter_gives.0))
