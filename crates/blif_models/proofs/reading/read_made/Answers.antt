use Rattle.std.proofs.Common.{Err}
use Rattle.std.proofs.lemmas.Result.{err_from_is_err_and}
use Rattle.blif_lines.specs.Reader.{read_lines}
use Rattle.blif_lines.proofs.WhatIsRead.{apart_last, fault_read, whole_read}
use Rattle.blif_models.specs.Contexts.{library_in, models_in}
use Rattle.blif_models.specs.Flat.{flat_model}
use Rattle.blif_models.specs.Reading.{first_in, made_fault}
use Rattle.blif_models.proofs.FirstRead.{passed_read}
use Rattle.blif_models.proofs.reading.read_made.Goals as goal

pub returns-in_err-take_first : goal.returns-in_err-take_first
returns-in_err-take_first c =
    let p = err_from_is_err_and c.from_residual-in_err-take_first.result c.from_residual-in_err-take_first.ensures.1 in
    let taken = rw c.in_ok-draft.ensures at c.in_err-take_first.ensures in
    let library = library_in c.args.models.now in
    let models = models_in c.args.models.now in
    rw (p.1, p.2) (passed_read (Err c.in_err-take_first.field-0.0) (made_fault library models) (read_lines library (flat_model library models (first_in models))) c.in_ok-check_made.ensures
    (fault_read library c.in_err-take_first.field-0.0 c.take_first.new.draft (flat_model library models (first_in models)) taken))

pub finish-requires : goal.finish-requires
finish-requires c =
    let taken = rw c.in_ok-draft.ensures at c.in_ok-take_first.ensures in
    let library = library_in c.args.models.now in
    let models = models_in c.args.models.now in
    apart_last library (flat_model library models (first_in models)) c.take_first.new.draft taken

pub returns : goal.returns
returns c =
    let taken = rw c.in_ok-draft.ensures at c.in_ok-take_first.ensures in
    let library = library_in c.args.models.now in
    let models = models_in c.args.models.now in
    passed_read c.finish.result (made_fault library models) _ c.in_ok-check_made.ensures
    (whole_read library c.finish.result c.take_first.new.draft (flat_model library models (first_in models)) taken c.finish.ensures)
