use Rattle.std.proofs.Common.{◌≡◌, ◌≤◌, ◌+◌, drop}
use Rattle.cover_ops.specs.Composed.{count_new}
use Rattle.cover_ops.proofs.composing.new_inputs.Given as goal

abbrev pub invariant-loop-place : goal.invariant-loop-place
invariant-loop-place l = (l.added + count_new (drop l.place-index l.places) ≡ count_new l.places) × (l.added ≤ l.place-index)
