use Rattle.std.proofs.Common.{[], slice_index_or}
use Rattle.std.proofs.lemmas.Result.{err_from_is_err_and}
use Rattle.blif_lines.proofs.Walk.{front_fails, back_taken}
use Rattle.blif_lines.specs.Reader.{model_lines}
use Rattle.blif_models.specs.FirstModel.{side_line}
use Rattle.blif_models.specs.declared.side.Side.TheVariants as side
use Rattle.blif_models.specs.Contexts.{library_in, models_in}
use Rattle.blif_models.proofs.first_model.take_port_lines.Goals as goal

pub returns-in_err-take_side : goal.returns-in_err-take_side
returns-in_err-take_side c =
    let p = err_from_is_err_and c.from_residual.result c.from_residual.ensures.1 in
    let library = library_in c.args.models.now in
    let models = models_in c.args.models.now in
    let model = slice_index_or models 0 [] in
    rw (p.1, p.2) (front_fails library c.in_err-take_side.field-0.0 c.args.draft.now c.take_side.new.draft (side_line side.Inputs library models (model_lines model)) (side_line side.Outputs library models (model_lines model)) c.in_err-take_side.ensures)

pub returns : goal.returns
returns c =
    let library = library_in c.args.models.now in
    let models = models_in c.args.models.now in
    let model = slice_index_or models 0 [] in
    back_taken library c.take_side-2.result c.args.draft.now c.take_side.new.draft c.take_side-2.new.draft (side_line side.Inputs library models (model_lines model)) (side_line side.Outputs library models (model_lines model)) c.in_ok-take_side.ensures c.take_side-2.ensures
