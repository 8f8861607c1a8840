use Rattle.sis_top.proofs.UsualWords.{asked_for}
use Rattle.sis_top.proofs.word_laws.options_are_asked_for.Goals as goal

pub returns : goal.returns
returns c = asked_for
