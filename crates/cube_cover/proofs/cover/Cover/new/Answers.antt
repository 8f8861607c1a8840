use Rattle.sis_base.specs.Rows.{HasWidth}
use Rattle.cube_cover.proofs.cover.Cover.new.Goals as goal

pub invariant_of-result : goal.invariant_of-result
unfolding HasWidth
invariant_of-result g c = rw c.new.ensures.items tt
