use Rattle.std.proofs.Common.{◌≡◌, [], fold, drop}
use Rattle.genlib_expr.specs.Tables.{tables_with}
use Rattle.genlib_expr.proofs.table.run.Given as goal

abbrev pub invariant-loop-node : goal.invariant-loop-node
invariant-loop-node l = fold (tables_with l.width) l.waiting.items (drop l.node-index l.nodes) ≡ fold (tables_with l.width) [] l.nodes
