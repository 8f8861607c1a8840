use Rattle.std.proofs.Common.{not, ◌∙◌, ap, length}
use Rattle.std.specs.List.{take_while}
use Rattle.sis_text.specs.declared.places.Line.{Line}
use Rattle.sis_text.specs.Entries.{entry_at}
use Rattle.blif_models.specs.Models.{begins_model}
use Rattle.blif_models.proofs.LineRuns.{count_as_entries}
use Rattle.blif_models.proofs.file.model_len.Goals as goal

pub returns-clause-count : goal.returns-clause-count
returns-clause-count c =
    count_as_entries c.args.text.now c.args.lines.now c.begin_place.result
    (c.begin_place.ensures ∙ ap (λ rest. length (take_while (λ (line : Line). not (begins_model (entry_at c.args.text.now line))) rest)) c.behind.ensures)
