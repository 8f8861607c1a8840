use Rattle.std.proofs.Common.{sym, ◌∙◌}
use Rattle.blif_lines.proofs.PairNames.{no_pair}
use Rattle.blif_lines.proofs.subckt_words.long_in_pair.Goals as goal

pub returns-then-not-is_pair : goal.returns-then-not-is_pair
returns-then-not-is_pair c = no_pair c.args.word.now (sym c.is_pair.ensures ∙ c.if-not-is_pair.true)
