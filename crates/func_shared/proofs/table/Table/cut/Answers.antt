use Rattle.std.proofs.Common.{sym, subst}
use Rattle.func_shared.specs.Vertices.{IsTable}
use Rattle.func_shared.proofs.Numbered.{table-cut}
use Rattle.func_shared.proofs.table.Table.cut.Goals as goal

pub invariant_of-self : goal.invariant_of-self
invariant_of-self c =
    subst IsTable (sym c.truncate.ensures.keys)
    (table-cut c.self.inside.vertices.keys c.args.count c.self.invariant)
