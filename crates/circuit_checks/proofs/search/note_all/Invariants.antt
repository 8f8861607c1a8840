use Rattle.std.proofs.Common.{◌≡◌, ◌++◌, length, drop}
use Rattle.circuit_checks.specs.Searching.{marks, fresh}
use Rattle.circuit_checks.proofs.search.note_all.Given as goal

abbrev pub invariant-loop-place : goal.invariant-loop-place
invariant-loop-place l = record {
  marked : marks l.seen.items (drop l.place-index l.places) ≡ marks l.fn.seen.items l.places;
  noted : l.pending.items ++ fresh l.seen.items (drop l.place-index l.places) ≡ l.fn.pending.items ++ fresh l.fn.seen.items l.places;
  long : length l.seen.items ≡ length l.fn.seen.items;
}
