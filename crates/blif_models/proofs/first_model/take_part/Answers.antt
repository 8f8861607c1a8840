use Rattle.std.proofs.Common.{ℕ, List, ap, ◌∙◌}
use Rattle.blif_models.specs.Files.{lines_at}
use Rattle.blif_models.specs.Contexts.{library_in}
use Rattle.blif_models.proofs.FirstLines.{fed_as}
use Rattle.blif_models.proofs.first_model.take_part.Goals as goal

pub returns : goal.returns
returns c =
    fed_as (library_in c.args.models.now) c.take_lines.result c.args.draft.now c.take_lines.new.draft _ _ (ap (λ (text : List ℕ). lines_at text c.part-lines.result.now) c.text.ensures ∙ c.part-lines.ensures)
    c.take_lines.ensures
