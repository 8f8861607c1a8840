use Rattle.kiss_format.proofs.Trip.{text_read}
use Rattle.kiss_format.proofs.laws.written_text_is_read.Goals as goal

pub returns : goal.returns
returns c = text_read
