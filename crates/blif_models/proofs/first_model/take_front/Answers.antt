use Rattle.std.proofs.Common.{◌+◌, [], List, Err, slice_index_or, ap, sym, ◌∙◌}
use Rattle.std.proofs.lemmas.Result.{err_from_is_err_and}
use Rattle.sis_text.specs.Entries.{Entry}
use Rattle.blif_lines.proofs.Walk.{front_fails, back_taken}
use Rattle.blif_lines.specs.Reader.{model_lines}
use Rattle.blif_lines.specs.Steps.{take_entries}
use Rattle.blif_models.specs.Flat.{flat_lines, port_lines}
use Rattle.blif_models.specs.Tables.{staying}
use Rattle.blif_models.specs.Contexts.{library_in, models_in}
use Rattle.blif_models.specs.declared.limits.TheConstants.{MAX_DEPTH}
use Rattle.blif_models.proofs.FirstLines.{fed_as}
use Rattle.blif_models.proofs.first_model.take_front.Goals as goal

pub returns-in_err-take_flat : goal.returns-in_err-take_flat
returns-in_err-take_flat c =
    let p = err_from_is_err_and c.from_residual.result c.from_residual.ensures.1 in
    let library = library_in c.args.models.now in
    let models = models_in c.args.models.now in
    let model = slice_index_or models 0 [] in
    rw (p.1, p.2) (front_fails library c.in_err-take_flat.field-0.0 c.args.draft.now c.take_flat.new.draft (staying (flat_lines library models (MAX_DEPTH + 1) (model_lines model))) (port_lines library models (model_lines model))
    (fed_as library (Err c.in_err-take_flat.field-0.0) c.args.draft.now c.take_flat.new.draft _ _ (ap (λ (lines : List Entry). staying (flat_lines library models (MAX_DEPTH + 1) lines)) c.body.ensures) c.in_err-take_flat.ensures))

pub returns : goal.returns
returns c =
    let library = library_in c.args.models.now in
    let models = models_in c.args.models.now in
    let model = slice_index_or models 0 [] in
    back_taken library c.take_port_lines.result c.args.draft.now c.take_flat.new.draft c.take_port_lines.new.draft (staying (flat_lines library models (MAX_DEPTH + 1) (model_lines model))) (port_lines library models (model_lines model))
    (ap (λ (lines : List Entry). take_entries library c.args.draft.now (staying (flat_lines library models (MAX_DEPTH + 1) lines))) (sym c.body.ensures) ∙ c.in_ok-take_flat.ensures) c.take_port_lines.ensures
