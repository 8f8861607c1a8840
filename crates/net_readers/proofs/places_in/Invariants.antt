use Rattle.std.proofs.Common.{◌≡◌, map}
use Rattle.net_readers.proofs.places_in.Given as goal

abbrev pub invariant-loop-place : goal.invariant-loop-place
invariant-loop-place l = l.places ≡ map (λ key. key.now) l.yielded
