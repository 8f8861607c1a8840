use Rattle.sis_outside.specs.Recording.{store_call}
use Rattle.sis_outside.proofs.Records.{noted_call}
use Rattle.sis_outside.proofs.recording.RecordingStoreEntryStore.load.Goals as goal

pub returns : goal.returns
returns g c =
    record { calls = (noted_call store_call c.args.self.now.log _ c.load_entry-entry.result _ c.note.ensures c.load_entry-entry.ensures, c.load-loaded.ensures.calls) }
