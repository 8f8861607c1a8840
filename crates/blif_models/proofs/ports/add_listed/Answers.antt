use Rattle.std.proofs.Common.{map}
use Rattle.sis_text.specs.Entries.{entry_at}
use Rattle.sis_text.specs.Words.{bytes_at}
use Rattle.line_words.specs.LineWords.{other_words}
use Rattle.blif_lines.specs.Keyword.{kind_of}
use Rattle.blif_models.proofs.PortSets.{not_listed}
use Rattle.blif_models.proofs.ports.add_listed.Goals as goal

pub returns-else-lists_some : goal.returns-else-lists_some
returns-else-lists_some c =
    not_listed c.args.side (kind_of (entry_at c.args.text.now c.args.line.now)) (other_words (map (bytes_at c.args.text.now) c.args.line.now.words)) c.args.set.now
    c.lists_some.result c.lists_some.ensures c.if-lists_some.false
