use Rattle.genlib_format.proofs.Sound.{library_sound}
use Rattle.genlib_format.proofs.reading.read.Goals as goal

pub returns-clause-sound : goal.returns-clause-sound
returns-clause-sound c = library_sound c.args.bytes.now c.read_whole.result c.read_whole.ensures
