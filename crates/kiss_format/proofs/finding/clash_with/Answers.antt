use Rattle.std.proofs.Common.{refl, sym, ◌∙◌}
use Rattle.kiss_format.proofs.Walks.{with-more, with-done}
use Rattle.kiss_format.proofs.finding.clash_with.Goals as goal

pub returns-then-clash-clause-value : goal.returns-then-clash-clause-value
returns-then-clash-clause-value c =
    let more = with-more c.args.front.now c.args.row.now c.index-front-place.result c.loop-place.place c.loop-place-test.true c.index-front-place.is in
    let hit = sym c.clash.ensures ∙ c.if-clash.true in
    rw (c.loop-place.invariant, more, hit) refl

pub loop-place-preserved : goal.loop-place-preserved
loop-place-preserved c =
    let more = with-more c.args.front.now c.args.row.now c.index-front-place.result c.loop-place.place c.loop-place-test.true c.index-front-place.is in
    let miss = sym c.clash.ensures ∙ c.if-clash.false in
    c.loop-place.invariant ∙ (more ∙ rw miss refl)

pub returns-clause-value : goal.returns-clause-value
returns-clause-value c = sym (c.loop-place.invariant ∙ with-done c.args.front.now c.args.row.now c.loop-place.place c.loop-place-test.false)
