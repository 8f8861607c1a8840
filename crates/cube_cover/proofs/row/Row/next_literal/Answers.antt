use Rattle.std.proofs.Common.{sym, ◌∙◌, ap, is_some, arith}
use Rattle.cube_cover.proofs.Dashes.{all_from, dashes_more}
use Rattle.cube_cover.proofs.row.Row.next_literal.Goals as goal

pub loop-column-init : goal.loop-column-init
loop-column-init g c = λ i a b. absurd (omega (arith, a, b))

pub loop-column-preserved : goal.loop-column-preserved
loop-column-preserved g c = dashes_more _ _ _ (sym (ap is_some c.at.ensures) ∙ sym c.is_some.ensures ∙ c.if-is_some.false) c.loop-column.invariant

pub returns-then-is_some-clause-before : goal.returns-then-is_some-clause-before
returns-then-is_some-clause-before g c = c.loop-column.invariant

pub returns-clause-none : goal.returns-clause-none
returns-clause-none g c = λ e. all_from _ _ _ (omega (arith, c.loop-column-test.false, c.width-column-end.ensures)) c.loop-column.invariant
