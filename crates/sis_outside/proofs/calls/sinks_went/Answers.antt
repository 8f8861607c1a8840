use Rattle.sis_outside.proofs.Following.{sink_went}
use Rattle.sis_outside.proofs.calls.sinks_went.Goals as goal

pub returns : goal.returns
returns g c = sink_went g.O.Sink.tells g.O.Sink.written g.O.Sink.faults g.O.Sink.calls g.met.O.Sink.keeps
