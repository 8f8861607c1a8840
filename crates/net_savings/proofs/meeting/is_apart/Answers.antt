use Rattle.std.proofs.Common.{sym, ◌∙◌}
use Rattle.net_savings.proofs.Contained.{apart_next, apart_not}
use Rattle.net_savings.proofs.meeting.is_apart.Goals as goal

pub loop-place-preserved : goal.loop-place-preserved
loop-place-preserved c =
    apart_next c.args.cube.now c.loop-place.place c.index-cube-place.result c.index-cube-place.result c.loop-place-test.true c.index-cube-place.is c.loop-place.invariant (sym c.is_named.ensures ∙ c.if-is_named.false)

pub returns-then-is_named : goal.returns-then-is_named
returns-then-is_named c =
    sym (apart_not c.args.cube.now c.loop-place.place c.index-cube-place.result c.index-cube-place.result c.loop-place-test.true c.index-cube-place.is c.loop-place.invariant (sym c.is_named.ensures ∙ c.if-is_named.true))
