use Rattle.sis_text.proofs.Readback.{read_back}
use Rattle.sis_text.proofs.laws.written_lines_are_read.Goals as goal

pub returns : goal.returns
returns c = read_back
