use Rattle.std.proofs.Common.{◌≡◌, ◌≤◌, max, drop}
use Rattle.genlib_expr.specs.Text.{depth_from}
use Rattle.genlib_expr.proofs.tokens.depth_of.Given as goal

abbrev pub invariant-loop-token : goal.invariant-loop-token
invariant-loop-token l = record {
  whole : max l.deepest (depth_from l.level (drop l.token-index l.tokens)) ≡ depth_from 0 l.tokens;
  few : l.level ≤ l.token-index;
  seen : l.level ≤ l.deepest;
}
