use Rattle.sis_base.specs.Rows.{HasWidth}
use Rattle.cover_ops.proofs.Compositions.{HasWidth-placed_rows}
use Rattle.cover_ops.proofs.composing.inner_rows.Goals as goal

pub returns-then-not-asks_for-clause-widths : goal.returns-then-not-asks_for-clause-widths
unfolding HasWidth
returns-then-not-asks_for-clause-widths g c = rw c.new-none.ensures.items tt

pub returns-then-bit-phase-clause-widths : goal.returns-then-bit-phase-clause-widths
returns-then-bit-phase-clause-widths g c = rw c.in_ok-own.ensures (HasWidth-placed_rows _ _ _)

pub returns-clause-widths : goal.returns-clause-widths
returns-clause-widths g c = rw c.in_ok-made.ensures (HasWidth-placed_rows _ _ _)
