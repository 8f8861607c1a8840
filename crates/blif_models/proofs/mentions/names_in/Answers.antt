use Rattle.std.proofs.Common.{◌++◌, List, ℕ, ap, ◌∙◌, flat_map, [], slice_index_or}
use Rattle.blif_lines.specs.Reader.{part_lines}
use Rattle.blif_models.specs.Files.{lines_at}
use Rattle.blif_models.specs.Made.{names_on}
use Rattle.blif_models.specs.Makings.{part_names}
use Rattle.blif_models.proofs.LineNames.{names_parts}
use Rattle.blif_models.proofs.mentions.names_in.Goals as goal

pub returns : goal.returns
returns c =
    let model = slice_index_or c.args.file.now.models c.args.place [] in
    c.in_ok-add_part_names.ensures
    ∙ ap (λ (rest : List (List ℕ)). c.add_lines.new.names ++ rest) (ap (λ (t : List ℕ). part_names (lines_at t c.part.result.now)) c.text-2.ensures ∙ ap part_names c.part.ensures)
    ∙ ap (λ (front : List (List ℕ)). front ++ part_names (part_lines model))
    (c.in_ok-add_lines.ensures ∙ ap (λ (front : List (List ℕ)). front ++ flat_map names_on (lines_at c.text.result.now c.body.result.now)) c.new-names.ensures ∙ ap (λ (t : List ℕ). flat_map names_on (lines_at t c.body.result.now)) c.text.ensures ∙ ap (flat_map names_on) c.body.ensures)
    ∙ names_parts model
