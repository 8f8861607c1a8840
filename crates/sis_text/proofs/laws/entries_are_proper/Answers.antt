use Rattle.sis_text.proofs.ProperEntries.{lines_proper, pieces_proper}
use Rattle.sis_text.proofs.laws.entries_are_proper.Goals as goal

pub returns : goal.returns
returns c = record { lines = lines_proper; pieces = pieces_proper }
