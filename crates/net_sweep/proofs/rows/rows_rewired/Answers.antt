use Rattle.std.proofs.Common.{◌∙◌, refl, ap, bytes_eq, map}
use Rattle.net_wires.specs.Aliases.{row_over}
use Rattle.net_sweep.proofs.RowSteps.{all_turned_marked}
use Rattle.net_wires.proofs.Carried.{on_value}
use Rattle.net_sweep.proofs.rows.rows_rewired.Goals as goal

pub returns : goal.returns
returns c =
    on_value c.rows_over.result
    (λ made is. is
    ∙ (ap (map (row_over c.as_slice-2.result.now)) c.as_slice-3.ensures
    ∙ (all_turned_marked c.args.name.now c.args.table.now.inputs c.as_slice-2.result.now c.args.table.now.rows (c.as_slice-2.ensures.value ∙ (c.in_ok-marks.ensures ∙ ap (map (bytes_eq c.args.name.now)) c.as_slice.ensures))
    ∙ rw (c.if-not-inverts.false) refl)))
    c.rows_over.ensures
