use Rattle.genlib_format.proofs.Shorter.{all_taken}
use Rattle.genlib_format.proofs.laws.entries_take_all_words.Goals as goal

pub returns : goal.returns
returns c = all_taken
