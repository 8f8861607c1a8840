use Rattle.std.proofs.Common.{◌≡◌, replicate, []}
use Rattle.circuit_order.proofs.index.no_places.Given as goal

abbrev pub invariant-loop : goal.invariant-loop
invariant-loop l = l.lists.items ≡ replicate l.counter []
