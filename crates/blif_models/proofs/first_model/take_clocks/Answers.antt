use Rattle.std.proofs.Common.{ℕ, List, [], ◌∷◌, codes, ap, ◌∙◌}
use Rattle.sis_text.specs.Entries.{Entry}
use Rattle.line_words.specs.LineWords.{texts}
use Rattle.blif_models.specs.Flat.{added}
use Rattle.blif_models.specs.Contexts.{library_in}
use Rattle.blif_models.proofs.FirstLines.{fed_as}
use Rattle.blif_models.proofs.first_model.take_clocks.Goals as goal

pub returns : goal.returns
returns c =
    fed_as (library_in c.args.models.now) c.take_added.result c.args.draft.now c.take_added.new.draft _ _
    (ap (λ (line : Entry). line ∷ [])
    (ap (λ (words : List (List ℕ)). added words)
    (ap texts c.as_slice-all.ensures.value
    ∙ c.in_ok-words.ensures
    ∙ ap (λ (first : List ℕ). first ∷ texts c.as_slice-others.result.now) c.as_slice-first.ensures
    ∙ ap (λ (rest : List (List ℕ)). codes ".clock" ∷ rest) (ap texts c.as_slice-others.ensures.value ∙ c.in_ok-slices.ensures ∙ c.as_slice-clocks.ensures))
    ∙ c.in_ok-names.ensures))
    c.take_added.ensures
