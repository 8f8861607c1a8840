use Rattle.std.proofs.Common.{◌≡◌, ◌+◌, ℕ, List, take, bytes_eq}
use Rattle.indexmap.specs.IndexMap.{get}
use Rattle.net_work.specs.Uses.{count_at, number_of}
use Rattle.net_work.proofs.counts.gain_all.Given as goal

abbrev pub invariant-loop-i : goal.invariant-loop-i
invariant-loop-i l = (other : List ℕ) → count_at (get bytes_eq l.counts other) ≡ count_at (get bytes_eq l.fn.counts other) + number_of (take l.i l.names) l.numbers other
