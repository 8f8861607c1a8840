use Rattle.std.proofs.Common.{sym, ap, ◌∙◌}
use Rattle.net_decomp.proofs.Partly.{signals_begin, signals_end, signal_left, signals_more_long, signals_more_short}
use Rattle.net_decomp.proofs.parting.signalled_rows.Goals as goal
use Rattle.net_decomp.proofs.parting.signalled_rows.Goals.{then-is_long_row+in_ok-signal_row_of+in_ok-push, else-is_long_row+in_ok-padded_row+in_ok-push-2}

pub loop-row-init : goal.loop-row-init
loop-row-init g c = signals_begin g.R.Row.literals c.args.width c.args.added c.args.rows.now c.in_ok-made.made.items c.in_ok-made.ensures.items c.requires

pub signal_row_of-requires : goal.signal_row_of-requires
signal_row_of-requires g c =
    signal_left g.R.Row.literals c.args.width c.args.added c.loop-row.number c.loop-row.row-index c.args.rows.now c.loop-row.made.items c.row-item.result c.loop-row.invariant c.loop-row-test.true c.row-item.is
    (sym c.is_long_row.ensures ∙ c.if-is_long_row.true)

pub loop-row-preserved : goal.loop-row-preserved
loop-row-preserved g c = elim c.if-is_long_row.branch [
  | then-is_long_row+in_ok-signal_row_of+in_ok-push w ↦
      signals_more_long g.R.Row.literals c.args.width c.args.added c.loop-row.number c.loop-row.row-index c.if-is_long_row.number c.args.rows.now c.loop-row.made.items c.if-is_long_row.made.items c.row-item.result w.in_ok-signal_row_of.field-0
      c.loop-row.invariant c.loop-row-test.true c.row-item.is (sym c.is_long_row.ensures ∙ w.if-is_long_row.true) w.in_ok-signal_row_of.ensures (ap (λ (v : _). v.items) w.made-is ∙ w.in_ok-push.ensures.items) w.number-is
  | else-is_long_row+in_ok-padded_row+in_ok-push-2 w ↦
      signals_more_short g.R.Row.literals c.args.width c.args.added c.loop-row.number c.loop-row.row-index c.if-is_long_row.number c.args.rows.now c.loop-row.made.items c.if-is_long_row.made.items c.row-item.result w.in_ok-padded_row.field-0
      c.loop-row.invariant c.loop-row-test.true c.row-item.is (sym c.is_long_row.ensures ∙ w.if-is_long_row.false) w.in_ok-padded_row.ensures (ap (λ (v : _). v.items) w.made-is ∙ w.in_ok-push-2.ensures.items) w.number-is
]

pub returns : goal.returns
returns g c = signals_end g.R.Row.literals c.args.width c.args.added c.loop-row.number c.loop-row.row-index c.args.rows.now c.loop-row.made.items c.loop-row-test.false c.loop-row.invariant
