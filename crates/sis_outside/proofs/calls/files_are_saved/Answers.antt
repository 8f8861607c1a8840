use Rattle.sis_outside.proofs.Following.{files_left}
use Rattle.sis_outside.proofs.calls.files_are_saved.Goals as goal

pub returns : goal.returns
returns c = files_left
