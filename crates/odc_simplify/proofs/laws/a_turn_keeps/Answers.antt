use Rattle.odc_simplify.proofs.Kept.{turn_kept}
use Rattle.odc_simplify.proofs.laws.a_turn_keeps.Goals as goal

pub returns : goal.returns
returns c = turn_kept
