use Rattle.std.proofs.Common.{◌+◌, ◌++◌, [], ◌∷◌, slice_index_or}
use Rattle.std.proofs.lemmas.Result.{err_from_is_err_and}
use Rattle.blif_lines.proofs.Walk.{front_fails, back_taken}
use Rattle.blif_lines.specs.Reader.{model_lines, part_lines}
use Rattle.blif_models.specs.Flat.{flat_model, flat_lines, port_lines, clock_line}
use Rattle.blif_models.specs.Tables.{staying}
use Rattle.blif_models.specs.declared.limits.TheConstants.{MAX_DEPTH}
use Rattle.blif_models.specs.Contexts.{library_in, models_in}
use Rattle.blif_models.proofs.first_model.take_first.Goals as goal

pub returns-in_err-take_front : goal.returns-in_err-take_front
unfolding flat_model
returns-in_err-take_front c =
    let p = err_from_is_err_and c.from_residual.result c.from_residual.ensures.1 in
    let library = library_in c.args.models.now in
    let models = models_in c.args.models.now in
    let model = slice_index_or models 0 [] in
    rw (p.1, p.2) (front_fails library c.in_err-take_front.field-0.0 c.args.draft.now c.take_front.new.draft (staying (flat_lines library models (MAX_DEPTH + 1) (model_lines model)) ++ port_lines library models (model_lines model)) (clock_line models (model_lines model) ∷ part_lines model) c.in_err-take_front.ensures)

pub returns : goal.returns
unfolding flat_model
returns c =
    let library = library_in c.args.models.now in
    let models = models_in c.args.models.now in
    let model = slice_index_or models 0 [] in
    back_taken library c.take_back.result c.args.draft.now c.take_front.new.draft c.take_back.new.draft (staying (flat_lines library models (MAX_DEPTH + 1) (model_lines model)) ++ port_lines library models (model_lines model)) (clock_line models (model_lines model) ∷ part_lines model) c.in_ok-take_front.ensures c.take_back.ensures
