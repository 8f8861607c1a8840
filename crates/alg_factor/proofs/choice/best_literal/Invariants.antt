use Rattle.std.proofs.Common.{◌*◌, map}
use Rattle.alg_factor.specs.Choices.{IsBest}
use Rattle.alg_factor.proofs.choice.best_literal.Given as goal

abbrev pub invariant-loop-place : goal.invariant-loop-place
invariant-loop-place g l = IsBest (2 * l.place) (map g.R.Row.literals l.rows) l.best
