use Rattle.std.proofs.Common.{◌≡◌, ◌+◌, ◌++◌, drop}
use Rattle.cover_ops.specs.Composed.{count_new, targets, AreEntries}
use Rattle.cover_ops.proofs.composing.target_list.Given as goal

abbrev pub invariant-loop-place : goal.invariant-loop-place
invariant-loop-place l =
    (l.list.items ++ targets l.x l.added l.next (drop l.place-index l.places) ≡ targets l.x l.added l.x l.places)
    × (l.next + count_new (drop l.place-index l.places) ≡ l.x + l.added) × AreEntries l.width l.x (drop l.place-index l.places)
