use Rattle.std.proofs.Common.{◌≡◌, drop}
use Rattle.genlib_expr.specs.Machine.{run, start}
use Rattle.genlib_expr.proofs.reading.nodes_of.Given as goal

abbrev pub invariant-loop-token : goal.invariant-loop-token
invariant-loop-token l = run (drop l.token-index l.tokens) l.reader ≡ run l.tokens start
