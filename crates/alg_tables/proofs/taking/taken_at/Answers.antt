use Rattle.std.proofs.Common.{◌∙◌, ap, true, false, inr}
use Rattle.std.proofs.lemmas.Bool.{lt-ltb, le-ltb}
use Rattle.std.proofs.lemmas.Result.{err_from_is_err_and}
use Rattle.circuit_tables.specs.Tidy.{tidied}
use Rattle.sis_base.specs.declared.limits.TheConstants.{MAX_INPUTS}
use Rattle.alg_tables.proofs.Steps.{entries_placed, entries_good, joined_placed, composed_named, composed_over, refusal_long, refusal_short}
use Rattle.alg_tables.proofs.taking.taken_at.Goals as goal

pub composed_cover-requires-clause-entries : goal.composed_cover-requires-clause-entries
composed_cover-requires-clause-entries g c =
    entries_good c.args.outer.now.inputs c.args.inner.now.inputs c.as_slice-3.result.now c.args.place c.requires.inner_once c.requires.apart
    (c.as_slice-3.ensures.value ∙ entries_placed c.args.outer.now.inputs c.args.inner.now.inputs c.as_slice.result.now c.as_slice-2.result.now c.in_ok-places.places.items c.as_slice.ensures c.as_slice-2.ensures c.in_ok-places.ensures)

pub returns-in_err-cover-clause-fault : goal.returns-in_err-cover-clause-fault
returns-in_err-cover-clause-fault g c =
    let p = err_from_is_err_and c.from_residual-in_err-cover.result c.from_residual-in_err-cover.ensures.1 in
    rw (p.1, p.2)
    (refusal_long c.args.list_limit c.args.row_limit c.args.place c.args.inner.now c.args.outer.now c.as_slice-3.result.now c.in_err-cover.field-0.0 c.requires.inner_over c.requires.outer_over
    (c.as_slice-3.ensures.value ∙ entries_placed c.args.outer.now.inputs c.args.inner.now.inputs c.as_slice.result.now c.as_slice-2.result.now c.in_ok-places.places.items c.as_slice.ensures c.as_slice-2.ensures c.in_ok-places.ensures)
    c.in_err-cover.ensures.fault)

pub returns-then-width-gt-MAX_INPUTS-clause-fault : goal.returns-then-width-gt-MAX_INPUTS-clause-fault
returns-then-width-gt-MAX_INPUTS-clause-fault g c = inr (
    refusal_short c.args.list_limit c.args.row_limit c.args.place c.len-width.result c.args.inner.now c.args.outer.now c.in_ok-inputs.inputs c.as_slice-3.result.now true c.requires.inner_over c.requires.outer_over
    (c.as_slice-3.ensures.value ∙ entries_placed c.args.outer.now.inputs c.args.inner.now.inputs c.as_slice.result.now c.as_slice-2.result.now c.in_ok-places.places.items c.as_slice.ensures c.as_slice-2.ensures c.in_ok-places.ensures)
    c.in_ok-cover.ensures.within
    (joined_placed c.args.place c.args.outer.now.inputs c.args.inner.now.inputs c.as_slice-4.result.now c.as_slice-5.result.now c.in_ok-inputs.inputs c.as_slice-4.ensures c.as_slice-5.ensures c.in_ok-inputs.ensures)
    c.len-width.ensures (lt-ltb MAX_INPUTS c.len-width.result c.if-width-gt-MAX_INPUTS.true))

pub tidy-requires : goal.tidy-requires
tidy-requires g c =
    composed_over c.args.place c.args.inner.now c.args.outer.now c.in_ok-inputs.inputs c.in_ok-cover.cover c.as_slice-3.result.now c.requires.outer_over c.requires.place
    (c.as_slice-3.ensures.value ∙ entries_placed c.args.outer.now.inputs c.args.inner.now.inputs c.as_slice.result.now c.as_slice-2.result.now c.in_ok-places.places.items c.as_slice.ensures c.as_slice-2.ensures c.in_ok-places.ensures)
    (joined_placed c.args.place c.args.outer.now.inputs c.args.inner.now.inputs c.as_slice-4.result.now c.as_slice-5.result.now c.in_ok-inputs.inputs c.as_slice-4.ensures c.as_slice-5.ensures c.in_ok-inputs.ensures)
    c.in_ok-cover.ensures.ok

pub returns-clause-ok : goal.returns-clause-ok
returns-clause-ok g c = λ name output.
    c.in_ok-tidy_table.ensures.tidy output ∙ ap tidied
    (composed_named c.args.place c.args.inner.now c.args.outer.now c.in_ok-inputs.inputs c.in_ok-cover.cover c.as_slice-3.result.now name output c.requires.inner_over c.requires.outer_over
    (c.as_slice-3.ensures.value ∙ entries_placed c.args.outer.now.inputs c.args.inner.now.inputs c.as_slice.result.now c.as_slice-2.result.now c.in_ok-places.places.items c.as_slice.ensures c.as_slice-2.ensures c.in_ok-places.ensures)
    (joined_placed c.args.place c.args.outer.now.inputs c.args.inner.now.inputs c.as_slice-4.result.now c.as_slice-5.result.now c.in_ok-inputs.inputs c.as_slice-4.ensures c.as_slice-5.ensures c.in_ok-inputs.ensures)
    c.in_ok-cover.ensures.ok)

pub returns-clause-within : goal.returns-clause-within
returns-clause-within g c =
    refusal_short c.args.list_limit c.args.row_limit c.args.place c.len-width.result c.args.inner.now c.args.outer.now c.in_ok-inputs.inputs c.as_slice-3.result.now false c.requires.inner_over c.requires.outer_over
    (c.as_slice-3.ensures.value ∙ entries_placed c.args.outer.now.inputs c.args.inner.now.inputs c.as_slice.result.now c.as_slice-2.result.now c.in_ok-places.places.items c.as_slice.ensures c.as_slice-2.ensures c.in_ok-places.ensures)
    c.in_ok-cover.ensures.within
    (joined_placed c.args.place c.args.outer.now.inputs c.args.inner.now.inputs c.as_slice-4.result.now c.as_slice-5.result.now c.in_ok-inputs.inputs c.as_slice-4.ensures c.as_slice-5.ensures c.in_ok-inputs.ensures)
    c.len-width.ensures (le-ltb MAX_INPUTS c.len-width.result c.if-width-gt-MAX_INPUTS.false)
