use Rattle.std.proofs.Common.{option_copied}
use Rattle.line_words.specs.LineWords.{texts}
use Rattle.blif_models.specs.PortTables.{ports_by}
use Rattle.blif_models.proofs.PortSets.{no_signals}
use Rattle.blif_models.proofs.port_lines.add_as.Goals as goal

pub returns-in_default : goal.returns-in_default
returns-in_default c =
    no_signals c.args.side (option_copied c.args.library) (ports_by c.args.file.now.models c.args.table.now) c.args.kind (texts c.args.words.now) c.args.set.now
    c.in_default.not-Names-0 c.in_default.not-Latch-0 c.in_default.not-Gate-0 c.in_default.not-Subckt-0
