use Rattle.std.proofs.Common.{sym, ◌∙◌}
use Rattle.kiss_format.proofs.Walks.{behind-on, behind-hit, behind-done}
use Rattle.kiss_format.proofs.finding.first_clash.Goals as goal

pub returns-in-Some-clause-value : goal.returns-in-Some-clause-value
returns-in-Some-clause-value c =
    sym (c.loop-later.invariant.0
    ∙ behind-hit c.args.rows.now c.index-rows-later.result c.loop-later.later c.in-Some.earlier c.loop-later-test.true c.index-rows-later.is (sym c.in-Some.ensures.value))

pub loop-later-preserved : goal.loop-later-preserved
loop-later-preserved c = (
  c.loop-later.invariant.0
      ∙ behind-on c.args.rows.now c.index-rows-later.result c.loop-later.later c.loop-later-test.true c.index-rows-later.is (sym c.in_default.ensures.value),
  c.in_ok-note_row.ensures,
)

pub returns-clause-value : goal.returns-clause-value
returns-clause-value c = sym (c.loop-later.invariant.0 ∙ behind-done c.args.rows.now c.loop-later.later c.loop-later-test.false)
