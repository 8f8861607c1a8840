use Rattle.std.proofs.Common.{ℕ, [], get_or, map, sym, ◌∙◌}
use Rattle.cube_cover.proofs.Numbered.{number_is, width_picked}
use Rattle.cube_cover.proofs.Splits.{some_contains_at}
use Rattle.cube_cover.proofs.tautology.choice_has_points.Goals as goal

pub has_points-requires : goal.has_points-requires
has_points-requires g c = width_picked _ _ c.args.numbers.now c.in-Some.i c.requires c.if-i-numbers.false

pub returns-else-i-numbers : goal.returns-else-i-numbers
returns-else-i-numbers g c = λ h.
    some_contains_at (λ (n : ℕ). get_or (map g.R.Row.literals c.args.rows.now) n []) _ c.args.numbers.now c.in-Some.i (get_or c.args.numbers.now c.in-Some.i 0) c.if-i-numbers.false (number_is c.args.numbers.now c.in-Some.i c.if-i-numbers.false) (sym c.has_points.ensures ∙ h)
