use Rattle.std.proofs.Common.{◌≡◌, [], map, take, get_or}
use Rattle.net_core.proofs.tidying.names_at.Given as goal

abbrev pub invariant-loop-place : goal.invariant-loop-place
invariant-loop-place l = l.made.items ≡ map (λ place. get_or l.names place []) (take l.place-index l.places)
