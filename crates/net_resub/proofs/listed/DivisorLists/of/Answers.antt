use Rattle.std.proofs.Common.{ltb, arith}
use Rattle.net_resub.proofs.Listing.{listed_more, listed_all}
use Rattle.net_resub.proofs.listed.DivisorLists.of.Goals as goal

pub loop-place-preserved : goal.loop-place-preserved
loop-place-preserved g c = listed_more c.args.work.now.slots c.list_divisor.new.self c.loop-place.place (c.in_ok-list_divisor.ensures (λ at. ltb at c.loop-place.place) c.loop-place.invariant)

pub returns : goal.returns
returns g c = listed_all c.args.work.now.slots c.loop-place.lists c.loop-place.place (let long = c.len-place-end.ensures in omega (arith, long, c.loop-place-test.false)) c.loop-place.invariant
