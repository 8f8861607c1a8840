use Rattle.std.proofs.Common.{◌≡◌}
use Rattle.cover_min.specs.Minimum.{widened_to}
use Rattle.cover_min.specs.Refusals.{RefusesTo}
use Rattle.cover_min.proofs.minimum.prime_of.Given as goal

abbrev pub invariant-loop-place : goal.invariant-loop-place
invariant-loop-place g l = record {
  stays : g.O.Oracle.Stays l.fn.oracle l.oracle;
  widened : g.R.Row.literals l.row ≡ widened_to (g.O.Oracle.meaning l.fn.oracle).off (g.R.Row.literals l.fn.row) l.place;
  passed : RefusesTo (g.O.Oracle.meaning l.fn.oracle) (g.O.Oracle.refusals l.fn.oracle)
      (g.R.Row.literals l.fn.row) l.place → ⊥;
}
