use Rattle.blif_write.proofs.ReadAgain.{text_read}
use Rattle.blif_write.proofs.trip.written_text_is_read.Goals as goal

pub returns : goal.returns
returns c = text_read
