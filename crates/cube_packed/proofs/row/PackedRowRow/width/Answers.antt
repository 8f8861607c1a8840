use Rattle.cube_packed.proofs.PlaneLiterals.{packed_width}
use Rattle.cube_packed.proofs.row.PackedRowRow.width.Goals as goal

pub returns : goal.returns
returns c = packed_width c.self.inside.width c.self.inside.words.items c.args.self.now c.self.view_is
