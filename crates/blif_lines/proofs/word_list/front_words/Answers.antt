use Rattle.blif_lines.proofs.Words.{front_texts}
use Rattle.blif_lines.proofs.word_list.front_words.Goals as goal

pub returns-in-len1-up : goal.returns-in-len1-up
returns-in-len1-up c = front_texts c.args.words.now
