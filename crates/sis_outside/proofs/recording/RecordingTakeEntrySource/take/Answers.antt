use Rattle.sis_outside.specs.Recording.{take_call}
use Rattle.sis_outside.proofs.Records.{noted_call}
use Rattle.sis_outside.proofs.recording.RecordingTakeEntrySource.take.Goals as goal

pub returns : goal.returns
returns g c =
    record { calls = (noted_call take_call c.args.self.now.log _ c.take_entry-entry.result _ c.note.ensures c.take_entry-entry.ensures, c.take-taken.ensures.calls) }
