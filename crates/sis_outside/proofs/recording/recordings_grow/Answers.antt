use Rattle.sis_outside.specs.Recording.{calls_in, put_call, store_call, take_call}
use Rattle.sis_outside.proofs.Records.{records_grow}
use Rattle.sis_outside.proofs.recording.recordings_grow.Goals as goal

pub returns-clause-store : goal.returns-clause-store
returns-clause-store g c = records_grow (λ r. calls_in store_call r.log) (λ r. r.inner) g.S.Store.calls

pub returns-clause-source : goal.returns-clause-source
returns-clause-source g c = records_grow (λ r. calls_in take_call r.log) (λ r. r.inner) g.I.Source.calls

pub returns-clause-sink : goal.returns-clause-sink
returns-clause-sink g c = records_grow (λ r. calls_in put_call r.log) (λ r. r.inner) g.O.Sink.calls
