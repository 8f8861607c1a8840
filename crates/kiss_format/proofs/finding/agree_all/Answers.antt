use Rattle.std.proofs.Common.{refl, sym, ◌∙◌}
use Rattle.kiss_format.proofs.Walks.{agree-more, agree-done, agree-short}
use Rattle.kiss_format.proofs.finding.agree_all.Goals as goal

pub returns-then-i-other : goal.returns-then-i-other
returns-then-i-other c = sym (c.loop-i.invariant ∙ agree-short c.args.row.now c.args.other.now c.loop-i.i c.if-i-other.true)

pub returns-then-not-may_agree : goal.returns-then-not-may_agree
returns-then-not-may_agree c =
    let more = agree-more c.args.row.now c.args.other.now c.loop-i.i c.loop-i-test.true c.if-i-other.false in
    let fails = sym c.may_agree.ensures ∙ c.if-not-may_agree.true in
    rw (c.loop-i.invariant, more, fails) refl

pub loop-i-preserved : goal.loop-i-preserved
loop-i-preserved c =
    let more = agree-more c.args.row.now c.args.other.now c.loop-i.i c.loop-i-test.true c.if-i-other.false in
    let goes = sym c.may_agree.ensures ∙ c.if-not-may_agree.false in
    c.loop-i.invariant ∙ (more ∙ rw goes refl)

pub returns : goal.returns
returns c = sym (c.loop-i.invariant ∙ agree-done c.args.row.now c.args.other.now c.loop-i.i c.loop-i-test.false)
