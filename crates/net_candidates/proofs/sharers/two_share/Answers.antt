use Rattle.std.proofs.Common.{refl}
use Rattle.net_candidates.proofs.ByTwo.{two_here}
use Rattle.net_candidates.proofs.sharers.two_share.Goals as goal

pub returns-then-shares_with_some : goal.returns-then-shares_with_some
returns-then-shares_with_some c = (
  λ h.
      c.loop-place.invariant.0
      (two_here c.args.cubes.now c.loop-place.place c.index-cubes-place.result c.args.cube.now c.loop-place-test.true c.index-cubes-place.is (c.shares_with_some.ensures.0 c.if-shares_with_some.true)),
  λ k. refl,
)
