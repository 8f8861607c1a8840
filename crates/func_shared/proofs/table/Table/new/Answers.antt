use Rattle.std.proofs.Common.{sym, subst}
use Rattle.func_shared.specs.Vertices.{IsTable}
use Rattle.func_shared.proofs.Numbered.{table-none}
use Rattle.func_shared.proofs.table.Table.new.Goals as goal

pub invariant_of-result : goal.invariant_of-result
invariant_of-result c = subst IsTable (sym c.new.ensures.empty) table-none
