use Rattle.std.proofs.Common.{◌≡◌, drop, length, map}
use Rattle.alg_div.specs.Steps.{support_from, support}
use Rattle.alg_div.proofs.steps.support_of.Given as goal

abbrev pub invariant-loop-row : goal.invariant-loop-row
invariant-loop-row g l = record {
  masked : support_from (g.R.Row.literals l.mask) (map g.R.Row.literals (drop l.row-index l.rows))
      ≡ support l.width (map g.R.Row.literals l.rows);
  wide : length (g.R.Row.literals l.mask) ≡ l.width;
}
