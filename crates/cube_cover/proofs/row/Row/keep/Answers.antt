use Rattle.std.proofs.Common.{ap, ◌∙◌, arith}
use Rattle.cube_cover.proofs.Turned.{kept_more, kept_skip, kept_last}
use Rattle.cube_cover.proofs.row.Row.keep.Goals as goal
use Rattle.cube_cover.proofs.row.Row.keep.Goals.{then-place-width, else-place-width}

pub loop-column-preserved : goal.loop-column-preserved
loop-column-preserved g c = elim c.if-place-width.branch [
  | then-place-width w ↦
      kept_more (g.Self.Row.literals c.args.self.now) c.args.places.now _ _ c.loop-column.column _ c.loop-column.invariant c.loop-column-test.true w.at.ensures (ap g.Self.Row.literals w.row-is ∙ w.set.ensures)
  | else-place-width w ↦
      kept_skip (g.Self.Row.literals c.args.self.now) c.args.places.now _ _ c.loop-column.column c.loop-column.invariant c.loop-column-test.true (omega (arith, w.if-place-width.false, c.width.ensures)) (ap g.Self.Row.literals w.row-is)
]

pub returns : goal.returns
returns g c = kept_last (g.Self.Row.literals c.args.self.now) c.args.places.now _ c.loop-column.column c.loop-column.invariant c.loop-column-test.false
