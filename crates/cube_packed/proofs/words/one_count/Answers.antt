use Rattle.std.proofs.Common.{arith, refl}
use Rattle.std.proofs.lemmas.Int.{ints}
use Rattle.std.proofs.lemmas.Nat.{ones-le, or_lt}
use Rattle.cube_packed.proofs.PlaneCounts.{ones_more, ones_fit, ones_end}
use Rattle.cube_packed.proofs.words.one_count.Goals as goal

pub overflow_cast-count : goal.overflow_cast-count
overflow_cast-count c =
    let at = c.loop-place.place in
    omega (arith, ints, ones-le 64 _ (or_lt 64 _ _ (c.type_inv.words at).fits (c.type_inv.others at).fits))

pub overflow_add-count : goal.overflow_add-count
overflow_add-count c =
    let at = c.loop-place.place in
    omega (arith, ints, ones_fit c.args.width c.args.words.now c.args.others.now at c.loop-place.count _ c.requires (or_lt 64 _ _ (c.type_inv.words at).fits (c.type_inv.others at).fits) c.loop-place.invariant refl, c.ranges.width.fits)

pub loop-place-preserved : goal.loop-place-preserved
loop-place-preserved c =
    let at = c.loop-place.place in
    ones_more c.args.width c.args.words.now c.args.others.now at c.loop-place.count _ c.requires (or_lt 64 _ _ (c.type_inv.words at).fits (c.type_inv.others at).fits) c.loop-place.invariant refl

pub returns : goal.returns
returns c = ones_end c.args.width c.args.words.now c.args.others.now c.loop-place.place c.loop-place.count c.requires c.loop-place-test.false c.loop-place.invariant
