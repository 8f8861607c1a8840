use Rattle.std.proofs.Common.{sym, ◌∙◌, ap, subst, map}
use Rattle.std.specs.List.{All}
use Rattle.sis_text.specs.Entries.{entry_at}
use Rattle.sis_text.specs.Order.{IsProper, is_plain}
use Rattle.sis_text.proofs.ProperEntries.{lines_proper}
use Rattle.kiss_format.proofs.reading.read.Goals as goal

pub returns-clause-sound : goal.returns-clause-sound
returns-clause-sound c =
    let same = ap (map (entry_at c.args.bytes.now)) c.as_slice.ensures ∙ c.in_ok-lines.ensures.entries in
    c.read_lines.ensures.sound (subst (All (IsProper is_plain)) (sym same) (lines_proper c.args.bytes.now))
