use Rattle.blif_lines.proofs.Words.{first_texts}
use Rattle.blif_lines.proofs.word_list.first_words.Goals as goal

pub returns : goal.returns
returns c = first_texts c.args.words.now c.args.count c.min.result c.min.ensures
