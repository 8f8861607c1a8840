use Rattle.sis_outside.specs.Recording.{put_call}
use Rattle.sis_outside.proofs.Records.{noted_call}
use Rattle.sis_outside.proofs.recording.RecordingPutEntrySink.put.Goals as goal

pub returns : goal.returns
returns g c =
    record { calls = (noted_call put_call c.args.self.now.log _ c.put_entry-entry.result _ c.note.ensures c.put_entry-entry.ensures, c.put-done.ensures.calls) }
