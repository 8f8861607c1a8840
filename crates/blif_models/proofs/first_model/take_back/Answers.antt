use Rattle.std.proofs.Common.{[], ◌∷◌, slice_index_or}
use Rattle.std.proofs.lemmas.Result.{err_from_is_err_and}
use Rattle.blif_lines.proofs.Walk.{front_fails, back_taken}
use Rattle.blif_lines.specs.Reader.{model_lines, part_lines}
use Rattle.blif_models.specs.Flat.{clock_line}
use Rattle.blif_models.specs.Contexts.{library_in, models_in}
use Rattle.blif_models.proofs.first_model.take_back.Goals as goal

pub returns-in_err-take_clocks : goal.returns-in_err-take_clocks
returns-in_err-take_clocks c =
    let p = err_from_is_err_and c.from_residual.result c.from_residual.ensures.1 in
    let library = library_in c.args.models.now in
    let models = models_in c.args.models.now in
    let model = slice_index_or models 0 [] in
    rw (p.1, p.2) (front_fails library c.in_err-take_clocks.field-0.0 c.args.draft.now c.take_clocks.new.draft (clock_line models (model_lines model) ∷ []) (part_lines model) c.in_err-take_clocks.ensures)

pub returns : goal.returns
returns c =
    let library = library_in c.args.models.now in
    let models = models_in c.args.models.now in
    let model = slice_index_or models 0 [] in
    back_taken library c.take_part.result c.args.draft.now c.take_clocks.new.draft c.take_part.new.draft (clock_line models (model_lines model) ∷ []) (part_lines model) c.in_ok-take_clocks.ensures c.take_part.ensures
