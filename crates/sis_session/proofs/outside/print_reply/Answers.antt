use Rattle.sis_session.proofs.Going.{put_nests}
use Rattle.sis_session.proofs.outside.print_reply.Goals as goal

pub returns-in-Ok-clause-nests : goal.returns-in-Ok-clause-nests
returns-in-Ok-clause-nests g c = λ depth. put_nests g.O.Sink.calls depth c.as_slice.result.now _ _ _ c.put.ensures
