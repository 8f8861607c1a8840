use Rattle.std.proofs.Common.{ℕ, ◌*◌, replicate, ap, ◌∙◌}
use Rattle.cube_packed.proofs.PlaneLiterals.{dashes_packed}
use Rattle.cube_packed.proofs.row.PackedRowRow.dashes.Goals as goal

pub invariant_of-result : goal.invariant_of-result
invariant_of-result c =
    (dashes_packed c.args.width c.in_ok-words.words.items (c.in_ok-words.ensures.items_if_clones_equal (λ y h. h) ∙ ap (λ (k : ℕ). replicate (2 * k) 0) c.plane_len.ensures)).1

pub returns : goal.returns
returns c =
    (dashes_packed c.args.width c.in_ok-words.words.items (c.in_ok-words.ensures.items_if_clones_equal (λ y h. h) ∙ ap (λ (k : ℕ). replicate (2 * k) 0) c.plane_len.ensures)).0
