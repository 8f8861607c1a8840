use Rattle.std.proofs.Common.{◌≡◌, sym, ap, ◌∙◌, length}
use Rattle.circuit_tables.specs.Folding.{each_once}
use Rattle.circuit_tables.specs.Listing.{places_of}
use Rattle.circuit_tables.proofs.Once.{full-each_once}
use Rattle.circuit_tables.proofs.Folded.{folded_same, folded_constant, folded_kept, rows_over}
use Rattle.circuit_tables.proofs.folding.merge_repeated_inputs.Goals as goal

pub returns-then-len : goal.returns-then-len
returns-then-len c =
    let same : length (each_once c.args.table.inputs) ≡ length c.args.table.inputs =
    ap length (sym (c.in_ok-once.ensures.names ∙ ap each_once c.as_slice.ensures)) ∙ (sym c.len.ensures.len ∙ (c.if-len.true ∙ c.len-2.ensures)) in
    sym (folded_same c.args.table (full-each_once c.args.table.inputs same))

pub returns-then-is_one : goal.returns-then-is_one
returns-then-is_one c =
    c.in_ok-made.ensures
    ∙ folded_constant c.args.table c.in_ok-rows.rows
    (λ same. c.if-len.false (c.len.ensures.len ∙ (ap length (c.in_ok-once.ensures.names ∙ ap each_once c.as_slice.ensures) ∙ (same ∙ sym c.len-2.ensures))))
    (rows_over c.args.table c.as_slice-3.result.now c.as_slice-4.result.now c.as_slice-5.result.now c.in_ok-rows.rows (c.as_slice-3.ensures ∙ (c.in_ok-inputs.ensures ∙ (c.as_slice-2.ensures.keys ∙ (c.in_ok-once.ensures.names ∙ ap each_once c.as_slice.ensures)))) (c.as_slice-4.ensures.value ∙ (c.in_ok-once.ensures.places ∙ ap places_of c.as_slice.ensures)) c.as_slice-5.ensures c.in_ok-rows.ensures)
    (sym c.is_one.ensures ∙ c.if-is_one.true)

pub returns : goal.returns
returns c =
    folded_kept c.args.table c.in_ok-inputs.inputs c.in_ok-rows.rows
    (λ same. c.if-len.false (c.len.ensures.len ∙ (ap length (c.in_ok-once.ensures.names ∙ ap each_once c.as_slice.ensures) ∙ (same ∙ sym c.len-2.ensures))))
    (c.in_ok-inputs.ensures ∙ (c.as_slice-2.ensures.keys ∙ (c.in_ok-once.ensures.names ∙ ap each_once c.as_slice.ensures)))
    (rows_over c.args.table c.as_slice-3.result.now c.as_slice-4.result.now c.as_slice-5.result.now c.in_ok-rows.rows (c.as_slice-3.ensures ∙ (c.in_ok-inputs.ensures ∙ (c.as_slice-2.ensures.keys ∙ (c.in_ok-once.ensures.names ∙ ap each_once c.as_slice.ensures)))) (c.as_slice-4.ensures.value ∙ (c.in_ok-once.ensures.places ∙ ap places_of c.as_slice.ensures)) c.as_slice-5.ensures c.in_ok-rows.ensures)
    (sym c.is_one.ensures ∙ c.if-is_one.false)
