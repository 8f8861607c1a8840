use Rattle.std.proofs.Common.{false, Some, ◌+◌, ◌∙◌, get_or, refl, sym, ap, drop}
use Rattle.circuit_model.specs.declared.circuit.Tri.TheVariants.{Zero}
use Rattle.net_sweep.specs.Columns.{row_at_marks}
use Rattle.net_sweep.proofs.RowSteps.{place_for, bit_more, bit_done, bit_next, bit_gone, bit_all}
use Rattle.net_sweep.proofs.rows.row_at_bit.Goals as goal

pub returns-in-None : goal.returns-in-None
returns-in-None c =
    bit_gone (row_at_marks c.args.bit c.args.marks.now c.args.row.now) (row_at_marks c.args.bit (drop (c.loop-i.i + 1) c.args.marks.now) (drop (c.loop-i.i + 1) c.args.row.now))
    (row_at_marks c.args.bit (drop c.loop-i.i c.args.marks.now) (drop c.loop-i.i c.args.row.now)) c.loop-i.made (place_for (get_or c.args.marks.now c.loop-i.i false) c.args.bit (get_or c.args.row.now c.loop-i.i Zero)) c.loop-i.invariant
    (bit_more c.args.bit c.args.marks.now c.args.row.now c.loop-i.i (get_or c.args.marks.now c.loop-i.i false) c.loop-i-test.true c.requires refl)
    (sym c.in-None.ensures)

pub loop-i-preserved : goal.loop-i-preserved
loop-i-preserved c =
    bit_next (row_at_marks c.args.bit c.args.marks.now c.args.row.now) (row_at_marks c.args.bit (drop (c.loop-i.i + 1) c.args.marks.now) (drop (c.loop-i.i + 1) c.args.row.now))
    (row_at_marks c.args.bit (drop c.loop-i.i c.args.marks.now) (drop c.loop-i.i c.args.row.now)) c.loop-i.made c.push.new.self c.in-Some.place
    (place_for (get_or c.args.marks.now c.loop-i.i false) c.args.bit (get_or c.args.row.now c.loop-i.i Zero)) c.loop-i.invariant
    (bit_more c.args.bit c.args.marks.now c.args.row.now c.loop-i.i (get_or c.args.marks.now c.loop-i.i false) c.loop-i-test.true c.requires refl)
    (sym c.in-Some.ensures)
    c.in_ok-push-in-Some.ensures.ok

pub returns : goal.returns
returns c =
    bit_all (row_at_marks c.args.bit c.args.marks.now c.args.row.now) (row_at_marks c.args.bit (drop c.loop-i.i c.args.marks.now) (drop c.loop-i.i c.args.row.now)) c.loop-i.made c.loop-i.invariant
    (bit_done c.args.bit c.args.marks.now c.args.row.now c.loop-i.i c.loop-i-test.false c.requires)
