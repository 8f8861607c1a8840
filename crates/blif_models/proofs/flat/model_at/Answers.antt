use Rattle.std.proofs.Common.{◌≡◌, Some, ap, ◌∙◌}
use Rattle.sis_text.specs.Entries.{entry_at}
use Rattle.blif_models.specs.Models.{model_of, index_of}
use Rattle.blif_models.specs.Contexts.{models_in, text_in}
use Rattle.blif_models.proofs.Finding.{unknown_size, found_within, empty_size, filled_at}
use Rattle.blif_models.proofs.flat.model_at.Goals as goal

pub returns-in-None : goal.returns-in-None
returns-in-None c =
    unknown_size (models_in c.args.models.now) (model_of (entry_at (text_in c.args.models.now) c.args.line.now)) (c.in-None.ensures ∙ ap (index_of (models_in c.args.models.now)) c.model_of.ensures)

pub returns-then-models-place-eq0 : goal.returns-then-models-place-eq0
returns-then-models-place-eq0 c =
    let models = models_in c.args.models.now in
    let name = model_of (entry_at (text_in c.args.models.now) c.args.line.now) in
    let found : Some c.in-Some.place ≡ index_of models name = c.in-Some.ensures ∙ ap (index_of models) c.model_of.ensures in
    empty_size models name c.in-Some.place _ (c.requires.right_sizes c.in-Some.place (found_within models name c.in-Some.place found)) found c.if-models-place-eq0.true

pub returns-else-models-place-eq0 : goal.returns-else-models-place-eq0
returns-else-models-place-eq0 c =
    let models = models_in c.args.models.now in
    let name = model_of (entry_at (text_in c.args.models.now) c.args.line.now) in
    let found : Some c.in-Some.place ≡ index_of models name = c.in-Some.ensures ∙ ap (index_of models) c.model_of.ensures in
    filled_at models name c.in-Some.place _ (c.requires.right_sizes c.in-Some.place (found_within models name c.in-Some.place found)) found c.if-models-place-eq0.false
