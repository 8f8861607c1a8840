use Rattle.std.proofs.Common.{◌<◌, length, arith}
use Rattle.cube_cover.specs.Literals.{literal_shared}
use Rattle.cube_cover.proofs.Turned.{turned_by, turned_last, length-shared_of, shared_at}
use Rattle.cube_cover.proofs.row.Row.shared.Goals as goal

pub loop-column-preserved : goal.loop-column-preserved
loop-column-preserved g c =
    let less : c.loop-column.column < length (g.Self.Row.literals c.args.self.now) = omega (arith, c.loop-column-test.true, c.width-column-end.ensures) in
    turned_by literal_shared _ _ _ _ _ _ _ _ _ _ c.loop-column.invariant less c.at.ensures c.at-in-loop-column.ensures c.shared_literal.ensures (shared_at _ _ _ c.requires less) c.set.ensures

pub returns : goal.returns
returns g c = turned_last _ _ _ _ c.loop-column.invariant (length-shared_of _ _ c.requires) (omega (arith, c.loop-column-test.false, c.width-column-end.ensures))
