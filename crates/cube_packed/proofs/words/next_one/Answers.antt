use Rattle.std.proofs.Common.{arith}
use Rattle.cube_packed.proofs.PlaneNext.{none_more, next_found, next_inside}
use Rattle.cube_packed.proofs.words.next_one.Goals as goal

pub loop-place-init : goal.loop-place-init
loop-place-init c = (omega arith, λ column a b. absurd (omega (arith, a, b)))

pub loop-place-preserved : goal.loop-place-preserved
loop-place-preserved c = (
  omega (arith, c.loop-place.invariant.0),
  none_more c.args.words.now c.args.others.now c.loop-place.place c.ones_from-ones.result c.saturating_sub-passed.result c.args.from c.ones_from-ones.ensures.behind c.saturating_sub-passed.ensures c.if-ones-ne0.false c.loop-place.invariant.1,
)

pub returns-then-ones-ne0-clause-found : goal.returns-then-ones-ne0-clause-found
returns-then-ones-ne0-clause-found c =
    let next = next_found c.args.words.now c.args.others.now c.loop-place.place c.ones_from-ones.result c.saturating_sub-passed.result c.args.from c.ones_from-ones.ensures.behind c.saturating_sub-passed.ensures c.ones_from-ones.ensures.before
    c.if-ones-ne0.true c.ones_from-ones.type_inv c.loop-place.invariant.1 in
    (next.after, next_inside c.args.width c.args.words.now c.args.others.now c.args.from _ c.requires next, next.one)

pub returns-then-ones-ne0-clause-fits : goal.returns-then-ones-ne0-clause-fits
returns-then-ones-ne0-clause-fits c =
    let next = next_found c.args.words.now c.args.others.now c.loop-place.place c.ones_from-ones.result c.saturating_sub-passed.result c.args.from c.ones_from-ones.ensures.behind c.saturating_sub-passed.ensures c.ones_from-ones.ensures.before
    c.if-ones-ne0.true c.ones_from-ones.type_inv c.loop-place.invariant.1 in
    omega (arith, next_inside c.args.width c.args.words.now c.args.others.now c.args.from _ c.requires next, c.ranges.width.fits)

pub returns-then-ones-ne0-clause-before : goal.returns-then-ones-ne0-clause-before
returns-then-ones-ne0-clause-before c =
    let next = next_found c.args.words.now c.args.others.now c.loop-place.place c.ones_from-ones.result c.saturating_sub-passed.result c.args.from c.ones_from-ones.ensures.behind c.saturating_sub-passed.ensures c.ones_from-ones.ensures.before
    c.if-ones-ne0.true c.ones_from-ones.type_inv c.loop-place.invariant.1 in
    next.before
