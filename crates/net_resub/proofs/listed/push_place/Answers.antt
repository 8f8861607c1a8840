use Rattle.std.proofs.Common.{◌≡◌, ℕ, true, List, subst}
use Rattle.net_readers.specs.Fanouts.{is_in}
use Rattle.net_resub.proofs.Listing.{last_in}
use Rattle.net_resub.proofs.listed.push_place.Goals as goal

pub returns-else-not-is_last : goal.returns-else-not-is_last
returns-else-not-is_last c = record {
  here =
      subst (λ (places : List ℕ). is_in places c.args.place ≡ true) c.as_slice.ensures.value (last_in c.as_slice.result.now c.args.place (c.is_last.ensures.0 c.if-not-is_last.false));
  still = λ at m. m;
}
