use Rattle.std.proofs.Common.{map}
use Rattle.sis_text.specs.Entries.{entry_at}
use Rattle.kiss_format.proofs.Sound.{reads_sound}
use Rattle.kiss_format.proofs.reading.read_lines.Goals as goal

pub returns-clause-sound : goal.returns-clause-sound
returns-clause-sound c = λ proper. reads_sound c.read_by_lines.result (map (entry_at c.args.bytes.now) c.args.lines.now) proper c.read_by_lines.ensures
