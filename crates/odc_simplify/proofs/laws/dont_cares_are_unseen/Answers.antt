use Rattle.odc_simplify.proofs.Kept.{dont_care_is}
use Rattle.odc_simplify.proofs.laws.dont_cares_are_unseen.Goals as goal

pub returns : goal.returns
returns c = dont_care_is
