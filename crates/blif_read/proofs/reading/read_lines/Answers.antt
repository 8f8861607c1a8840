use Rattle.std.proofs.Common.{map, ◌∙◌, ap, subst}
use Rattle.std.specs.Prelude.{option_copied}
use Rattle.sis_text.specs.Entries.{entry_at}
use Rattle.blif_read.specs.Reader.{Reads}
use Rattle.blif_read.proofs.Beside.{read_beside}
use Rattle.blif_read.proofs.reading.read_lines.Goals as goal

pub returns : goal.returns
returns c =
    subst (Reads c.read_runs.result)
    (read_beside (option_copied c.args.library) (map (entry_at c.args.source.now) c.args.lines.now) _ _ _
    (ap (map (entry_at c.args.source.now)) c.split_at.ensures.front ∙ c.part_last-beside.ensures.beside)
    (ap (map (entry_at c.args.source.now)) c.split_at.ensures.back ∙ c.part_last-beside.ensures.part) c.lines_before_end.ensures)
    c.read_runs.ensures
