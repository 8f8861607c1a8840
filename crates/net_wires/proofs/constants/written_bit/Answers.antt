use Rattle.std.proofs.Common.{true, false, sym, ◌∙◌}
use Rattle.net_wires.proofs.Written.{not_written_inputs, not_written_phase, written_no_row, written_by_row}
use Rattle.net_wires.proofs.constants.written_bit.Goals as goal

pub returns-then-not-is_empty : goal.returns-then-not-is_empty
returns-then-not-is_empty c = sym (not_written_inputs c.args.table.now (sym c.is_empty.ensures ∙ c.if-not-is_empty.true))

pub returns-then-not-table : goal.returns-then-not-table
returns-then-not-table c = sym (not_written_phase c.args.table.now (sym c.is_empty.ensures ∙ c.if-not-is_empty.false) c.if-not-table.true)

pub returns-then-is_empty : goal.returns-then-is_empty
returns-then-is_empty c =
    sym (written_no_row c.args.table.now (sym c.is_empty.ensures ∙ c.if-not-is_empty.false) c.if-not-table.false (sym c.is_empty-2.ensures ∙ c.if-is_empty.true))

pub returns-then-is_one_empty_row : goal.returns-then-is_one_empty_row
returns-then-is_one_empty_row c =
    sym (written_by_row c.args.table.now c.as_slice.result.now true (sym c.is_empty.ensures ∙ c.if-not-is_empty.false) c.if-not-table.false (sym c.is_empty-2.ensures ∙ c.if-is_empty.false) c.as_slice.ensures (sym c.is_one_empty_row.ensures ∙ c.if-is_one_empty_row.true))

pub returns : goal.returns
returns c =
    sym (written_by_row c.args.table.now c.as_slice.result.now false (sym c.is_empty.ensures ∙ c.if-not-is_empty.false) c.if-not-table.false (sym c.is_empty-2.ensures ∙ c.if-is_empty.false) c.as_slice.ensures (sym c.is_one_empty_row.ensures ∙ c.if-is_one_empty_row.false))
