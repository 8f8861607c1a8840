use Rattle.sdc_simplify.proofs.Local.{local_nowhere}
use Rattle.sdc_simplify.proofs.laws.local_points_do_not_come.Goals as goal

pub returns : goal.returns
returns c = local_nowhere
