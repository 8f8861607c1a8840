use Rattle.std.proofs.Common.{refl, sym, ◌∙◌}
use Rattle.kiss_format.specs.Groups.{clash_at}
use Rattle.kiss_format.proofs.Grouped.{among_more, among_done}
use Rattle.kiss_format.proofs.finding.clash_among.Goals as goal

pub returns-then-clash_at : goal.returns-then-clash_at
returns-then-clash_at c =
    let more = among_more (clash_at c.args.rows.now c.args.row.now) c.args.places.now c.loop-place.place-index c.loop-place-test.true in
    let hit = sym c.clash_at.ensures ∙ c.if-clash_at.true in
    sym (c.loop-place.invariant ∙ (more ∙ rw hit refl))

pub loop-place-preserved : goal.loop-place-preserved
loop-place-preserved c =
    let more = among_more (clash_at c.args.rows.now c.args.row.now) c.args.places.now c.loop-place.place-index c.loop-place-test.true in
    let miss = sym c.clash_at.ensures ∙ c.if-clash_at.false in
    c.loop-place.invariant ∙ (more ∙ rw miss refl)

pub returns : goal.returns
returns c = sym (c.loop-place.invariant ∙ among_done (clash_at c.args.rows.now c.args.row.now) c.args.places.now c.loop-place.place-index c.loop-place-test.false)
