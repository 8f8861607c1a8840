use Rattle.std.proofs.Common.{◌+◌, not, ◌∙◌, ap, map, take}
use Rattle.sis_text.specs.Entries.{Entry, entry_at}
use Rattle.blif_lines.specs.Keyword.{kind_of}
use Rattle.blif_lines.specs.Lines.{begins_kiss}
use Rattle.blif_read.specs.Parts.{front_lines}
use Rattle.blif_read.proofs.PartLines.{to_as_entries}
use Rattle.blif_read.proofs.parts.front_lines.Goals as goal

pub returns : goal.returns
unfolding front_lines
returns c =
    ap (map (entry_at c.args.source.now)) c.lines_to.ensures
    ∙ ap (λ n. map (entry_at c.args.source.now) (take (n + 1) c.args.lines.now)) c.begin_place.ensures
    ∙ to_as_entries (λ (line : Entry). not (begins_kiss (kind_of line))) c.args.source.now c.args.lines.now
