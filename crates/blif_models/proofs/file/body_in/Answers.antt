use Rattle.std.proofs.Common.{not, ◌∙◌, ap, map, take}
use Rattle.sis_text.specs.Entries.{Entry, entry_at}
use Rattle.blif_lines.specs.Keyword.{kind_of}
use Rattle.blif_lines.specs.Lines.{begins_part}
use Rattle.blif_lines.specs.Reader.{model_lines}
use Rattle.blif_models.proofs.LineRuns.{run_as_entries}
use Rattle.blif_models.proofs.file.body_in.Goals as goal

pub returns : goal.returns
unfolding model_lines
returns c =
    ap (λ n. map (entry_at c.args.text.now) (take n c.args.model.now)) c.part_place.ensures
    ∙ run_as_entries (λ (line : Entry). not (begins_part (kind_of line))) c.args.text.now c.args.model.now
