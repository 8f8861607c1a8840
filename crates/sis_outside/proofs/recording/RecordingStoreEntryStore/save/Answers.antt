use Rattle.sis_outside.specs.Recording.{store_call}
use Rattle.sis_outside.proofs.Records.{noted_call}
use Rattle.sis_outside.proofs.recording.RecordingStoreEntryStore.save.Goals as goal

pub returns : goal.returns
returns g c =
    record { calls = (noted_call store_call c.args.self.now.log _ c.save_entry-entry.result _ c.note.ensures c.save_entry-entry.ensures, c.save-saved.ensures.calls) }
