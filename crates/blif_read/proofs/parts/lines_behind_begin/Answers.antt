use Rattle.std.proofs.Common.{◌+◌, not, ◌∙◌, ap, map, drop}
use Rattle.sis_text.specs.Entries.{Entry, entry_at}
use Rattle.blif_lines.specs.Keyword.{kind_of}
use Rattle.blif_lines.specs.Lines.{begins_kiss}
use Rattle.blif_read.proofs.PartLines.{behind_as_entries}
use Rattle.blif_read.proofs.parts.lines_behind_begin.Goals as goal

pub returns : goal.returns
returns c =
    ap (map (entry_at c.args.source.now)) c.lines_behind.ensures
    ∙ ap (λ n. map (entry_at c.args.source.now) (drop (n + 1) c.args.lines.now)) c.begin_place.ensures
    ∙ behind_as_entries (λ (line : Entry). not (begins_kiss (kind_of line))) c.args.source.now c.args.lines.now
