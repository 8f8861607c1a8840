use Rattle.std.proofs.lemmas.Map.Keys.{IsStrictlyIncreasing-from_sorted}
use Rattle.net_readers.proofs.places_in.Goals as goal

pub returns-clause-rising : goal.returns-clause-rising
returns-clause-rising c =
    IsStrictlyIncreasing-from_sorted c.args.set.now.keys c.iter-place-items.ensures.ordered

pub returns-in_err-push-clause-rising : goal.returns-in_err-push-clause-rising
returns-in_err-push-clause-rising c =
    IsStrictlyIncreasing-from_sorted c.args.set.now.keys c.iter-place-items.ensures.ordered
