use Rattle.std.proofs.Common.{◌+◌, not, List, ◌∙◌, ap, length, map, drop}
use Rattle.std.specs.List.{take_while}
use Rattle.sis_text.specs.Entries.{Entry, entry_at}
use Rattle.blif_read.specs.Parts.{ends_kiss, kiss_lines, rest_lines}
use Rattle.blif_read.proofs.PartLines.{behind_as_entries}
use Rattle.blif_read.proofs.parts.rest_lines.Goals as goal

pub returns : goal.returns
unfolding kiss_lines rest_lines
returns c =
    let goes_on = λ (line : Entry). not (ends_kiss line) in
    ap (map (entry_at c.args.source.now)) c.lines_behind.ensures
    ∙ ap (λ n. map (entry_at c.args.source.now) (drop (n + 1) c.lines_behind_begin-rest.result.now)) c.end_place.ensures
    ∙ behind_as_entries goes_on c.args.source.now c.lines_behind_begin-rest.result.now
    ∙ ap (λ (rest : List Entry). drop (length (take_while goes_on rest) + 1) rest) c.lines_behind_begin-rest.ensures
