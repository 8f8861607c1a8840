use Rattle.net_resub.proofs.Listing.{is_last_told}
use Rattle.net_resub.proofs.listed.is_last.Goals as goal

pub returns-in-Some : goal.returns-in-Some
returns-in-Some c = is_last_told c.args.places.now c.args.place c.in-Some.last.now c.in-Some.ensures.value
