use Rattle.pattern_set.proofs.Numbering.{range_pushed}
use Rattle.pattern_set.proofs.gathering.places_below.Goals as goal

pub loop-place-preserved : goal.loop-place-preserved
loop-place-preserved c =
    range_pushed c.loop-place.made.items c.push.new.self.items c.loop-place.place c.loop-place.invariant c.in_ok-push.ensures.items
