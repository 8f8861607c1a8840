use Rattle.std.proofs.Common.{◌≡◌, ◌<◌, ℕ, true}
use Rattle.net_readers.specs.Fanouts.{is_in}
use Rattle.net_resub.proofs.candidates.first_places.Given as goal

abbrev pub invariant-loop-place : goal.invariant-loop-place
invariant-loop-place l = (at : ℕ) → at < l.place → is_in l.places.items at ≡ true
