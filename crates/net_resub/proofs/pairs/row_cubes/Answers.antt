use Rattle.net_core.specs.Tables.{named}
use Rattle.net_resub.proofs.Rows.{cubes_all}
use Rattle.net_resub.proofs.pairs.row_cubes.Goals as goal

pub returns : goal.returns
unfolding named
returns g c =
    cubes_all g.R.Row.literals c.args.entry.now.table.inputs c.rows-rows.result.now c.loop-row.row-index c.args.entry.now.table.cover.rows c.loop-row.cubes.items c.loop-row-test.false c.rows-rows.ensures.items
    c.loop-row.invariant
