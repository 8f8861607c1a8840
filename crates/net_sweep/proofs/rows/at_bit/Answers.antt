use Rattle.std.proofs.Common.{◌∙◌, ℕ, List, sym, ap, bytes_eq, map}
use Rattle.std.specs.List.{filter_map}
use Rattle.circuit_model.specs.Names.{has}
use Rattle.net_sweep.specs.Columns.{row_at_marks}
use Rattle.net_sweep.proofs.RowSteps.{at_marked}
use Rattle.net_wires.proofs.Carried.{on_value}
use Rattle.net_sweep.proofs.rows.at_bit.Goals as goal

pub returns : goal.returns
returns c =
    on_value c.tidied_table.result
    (λ made is. is
    ∙ at_marked c.args.name.now c.args.bit c.args.table.now c.as_slice-3.result.now c.in_ok-copy.field-0 c.in_ok-copy-2.field-0 c.in_ok-rows.rows (ap (λ (names : List (List ℕ)). has names c.args.name.now) (sym c.as_slice.ensures) ∙ sym c.has_name.ensures ∙ c.if-not-has_name.false)
    (c.as_slice-3.ensures.value ∙ (c.in_ok-marks.ensures ∙ ap (map (bytes_eq c.args.name.now)) c.as_slice-2.ensures)) c.in_ok-copy.ensures c.in_ok-copy-2.ensures
    (c.in_ok-rows.ensures ∙ ap (filter_map (row_at_marks c.args.bit c.as_slice-3.result.now)) c.as_slice-4.ensures))
    c.tidied_table.ensures
