use Rattle.std.proofs.Common.{not, ◌∙◌, ap, map, take}
use Rattle.sis_text.specs.Entries.{Entry, entry_at}
use Rattle.blif_read.specs.Parts.{ends_kiss}
use Rattle.blif_read.proofs.PartLines.{before_as_entries}
use Rattle.blif_read.proofs.parts.lines_before_end.Goals as goal

pub returns : goal.returns
returns c =
    ap (λ n. map (entry_at c.args.source.now) (take n c.args.lines.now)) c.end_place.ensures
    ∙ before_as_entries (λ (line : Entry). not (ends_kiss line)) c.args.source.now c.args.lines.now
