use Rattle.cube_packed.proofs.PlaneLiterals.{opened}
use Rattle.cube_packed.proofs.row.PackedRow.planes.Goals as goal

pub returns : goal.returns
returns c =
    let both = opened c.self.inside.width c.self.inside.words.items c.args.self.now c.self.view_is c.self.invariant in
    rw (c.split_at.ensures.front, c.split_at.ensures.back, c.plane_len.ensures, c.as_slice.ensures) (record { literals = both.0; cube = both.1 })
