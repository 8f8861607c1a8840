use Rattle.std.proofs.Common.{◌∙◌}
use Rattle.blif_lines.proofs.Words.{last_at, last_none}
use Rattle.blif_lines.proofs.word_list.last_word.Goals as goal

pub returns-in-empty : goal.returns-in-empty
returns-in-empty c = c.as_slice.ensures ∙ last_none c.args.words.now c.in-empty.len_below

pub returns-in-len1-up : goal.returns-in-len1-up
returns-in-len1-up c = last_at c.args.words.now _ c.in-len1-up.len_at_least
