use Rattle.std.proofs.Common.{◌≡◌, ℕ, true, List, get_or, refl, sym, subst}
use Rattle.std.proofs.lemmas.List.{take_all}
use Rattle.net_readers.specs.Fanouts.{is_in}
use Rattle.net_savings.proofs.Refreshed.{listed_next}
use Rattle.net_savings.proofs.listing.list_places.Goals as goal

pub loop-place-preserved : goal.loop-place-preserved
loop-place-preserved g c = record {
  known = c.in_ok-list_place.ensures.known;
  stays = λ at listed. c.in_ok-list_place.ensures.stays at (c.loop-place.invariant.stays at listed);
  listed = listed_next c.args.work.now c.loop-place.own.items c.list_place.new.own.items c.args.places.now c.loop-place.place-index (get_or c.args.places.now c.loop-place.place-index 0) 0 c.loop-place-test.true refl
      c.in_ok-list_place.ensures.stays c.in_ok-list_place.ensures.listed c.loop-place.invariant.listed;
}

pub returns-clause-listed : goal.returns-clause-listed
returns-clause-listed g c = λ at h within.
    c.loop-place.invariant.listed at (subst (λ (places : List ℕ). is_in places at ≡ true) (sym (take_all c.loop-place.place-index c.args.places.now c.loop-place-test.false)) h) within
