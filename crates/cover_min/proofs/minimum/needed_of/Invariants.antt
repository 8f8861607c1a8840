use Rattle.std.proofs.Common.{length, drop, option_map}
use Rattle.cover_min.specs.Trimming.{in_hand, IsTrimming}
use Rattle.cover_min.proofs.minimum.needed_of.Given as goal

abbrev pub invariant-loop-row : goal.invariant-loop-row
invariant-loop-row g l = record {
  stays : g.O.Oracle.Stays l.fn.oracle l.oracle;
  trimming :
      IsTrimming (g.O.Oracle.meaning l.fn.oracle) (g.O.Oracle.refusals l.fn.oracle) l.fn.cover.rows
      l.held.others l.held.place (option_map g.R.Row.literals l.held.hand);
}

abbrev pub decreases-loop-row : goal.decreases-loop-row
decreases-loop-row g l = length (in_hand (option_map g.R.Row.literals l.held.hand) (drop l.held.place l.held.others.rows))
