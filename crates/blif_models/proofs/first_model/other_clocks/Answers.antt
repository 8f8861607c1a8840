use Rattle.std.proofs.Common.{ℕ, List, [], ◌∷◌, ◌++◌, codes, slice_index_or, ap, ◌∙◌}
use Rattle.blif_lines.specs.Reader.{model_lines, clocks_in, names_beside}
use Rattle.blif_models.specs.Files.{lines_at}
use Rattle.blif_models.specs.Flat.{added}
use Rattle.blif_models.proofs.first_model.other_clocks.Goals as goal

pub returns : goal.returns
returns c =
    let models = c.args.file.now.models in
    ap (λ (names : List (List ℕ)). added (codes ".clock" ∷ names))
    (c.in_ok-names.ensures
    ∙ ap (λ (own : List (List ℕ)). names_beside own c.as_slice-rest.result.now)
    (c.as_slice-first.ensures
    ∙ c.in_ok-add_clocks.ensures
    ∙ ap (λ (front : List (List ℕ)). front ++ clocks_in (lines_at c.text.result.now c.body.result.now)) c.new-own.ensures
    ∙ ap (λ (text : List ℕ). clocks_in (lines_at text c.body.result.now)) c.text.ensures
    ∙ ap clocks_in c.body.ensures)
    ∙ ap (names_beside (clocks_in (model_lines (slice_index_or models 0 [])))) (c.as_slice-rest.ensures ∙ c.in_ok-all.ensures))
