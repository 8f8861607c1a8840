use Rattle.std.proofs.Common.{◌≡◌, ℕ, ◌<◌, true, take, length}
use Rattle.net_readers.specs.Fanouts.{is_in}
use Rattle.net_savings.specs.Listing.{IsListed}
use Rattle.net_savings.specs.Savings.{AreTrue}
use Rattle.net_savings.proofs.listing.list_places.Given as goal

abbrev pub invariant-loop-place : goal.invariant-loop-place
invariant-loop-place g l = record {
  known : AreTrue l.rule l.work l.ranked l.own.items;
  stays : (at : ℕ) → IsListed l.fn.own.items at → IsListed l.own.items at;
  listed : (at : ℕ) → is_in (take l.place-index l.places) at ≡ true → at < length l.work.slots → IsListed l.own.items at;
}
