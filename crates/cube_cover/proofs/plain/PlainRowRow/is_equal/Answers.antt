use Rattle.std.proofs.Common.{◌≡◌, subst}
use Rattle.std.proofs.lemmas.Slice.Eq.{slice_eq-Decides}
use Rattle.std.specs.Prelude.{Bool, Option, List, ◌↔◌, IsTrue}
use Rattle.cube_cover.proofs.Products.{literal_decides}
use Rattle.cube_cover.proofs.plain.PlainRowRow.is_equal.Goals as goal

pub returns : goal.returns
returns c = rw (← c.self.view_is, ← c.other.view_is)
    (subst (λ (row : List (Option Bool)). IsTrue c.eq.result ↔ (row ≡ c.other.inside.literals))
    c.as_slice.ensures
    (subst (λ (row : List (Option Bool)). IsTrue c.eq.result ↔ (c.as_slice.result.now ≡ row))
    c.as_slice-2.ensures
    (slice_eq-Decides literal_decides c.as_slice.result.now c.as_slice-2.result.now c.eq.result
    c.eq.ensures)))
