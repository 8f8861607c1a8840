use Rattle.sis_top.proofs.UsualWords.{refused}
use Rattle.sis_top.proofs.word_laws.other_words_are_refused.Goals as goal

pub returns : goal.returns
returns c = refused
