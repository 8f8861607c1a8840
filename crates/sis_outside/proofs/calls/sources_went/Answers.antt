use Rattle.sis_outside.proofs.Following.{source_went}
use Rattle.sis_outside.proofs.calls.sources_went.Goals as goal

pub returns : goal.returns
returns g c = source_went g.I.Source.tells g.I.Source.left g.I.Source.faults g.I.Source.calls g.met.I.Source.keeps
