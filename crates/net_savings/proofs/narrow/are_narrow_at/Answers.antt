use Rattle.std.proofs.Common.{get_or, refl, subst}
use Rattle.std.proofs.lemmas.List.{take_all}
use Rattle.std.specs.List.{AllByRecursion}
use Rattle.alg_div.proofs.Lists.{Has-at}
use Rattle.net_work.specs.Placed.{table_at}
use Rattle.net_savings.specs.Saving.{IsNarrowIn}
use Rattle.net_savings.proofs.Losing.{narrow_next}
use Rattle.net_savings.proofs.Narrowing.{wide_among}
use Rattle.net_savings.proofs.narrow.are_narrow_at.Goals as goal

pub loop-place-init : goal.loop-place-init
loop-place-init g c = tt

pub loop-place-preserved : goal.loop-place-preserved
loop-place-preserved g c =
    narrow_next c.args.name.now c.args.cover.now c.args.work.now.slots c.args.places.now c.loop-place.place-index (get_or c.args.places.now c.loop-place.place-index 0) 0 c.loop-place-test.true refl
    c.loop-place.invariant (c.in_ok-is_narrow_at.ensures.0 c.if-not-branch.false)

pub returns-then-not-branch : goal.returns-then-not-branch
returns-then-not-branch g c =
    wide_among c.args.name.now c.args.cover.now c.args.work.now.slots c.args.places.now (get_or c.args.places.now c.loop-place.place-index 0) c.in_ok-is_narrow_at.field-0
    (Has-at c.args.places.now c.loop-place.place-index 0 c.loop-place-test.true) c.in_ok-is_narrow_at.ensures c.if-not-branch.true

pub returns : goal.returns
returns g c = (
  λ _. subst (AllByRecursion (λ place. IsNarrowIn c.args.name.now c.args.cover.now (table_at c.args.work.now.slots place)))
      (take_all c.loop-place.place-index c.args.places.now c.loop-place-test.false) c.loop-place.invariant,
  λ _. refl,
)
