use Rattle.std.proofs.Common.{◌≡◌, ◌||◌, ℕ, List, take}
use Rattle.circuit_model.specs.Names.{has}
use Rattle.net_core.proofs.reserved.note_all.Given as goal

abbrev pub invariant-loop-name : goal.invariant-loop-name
invariant-loop-name l = (other : List ℕ) → has l.names.keys other ≡ (has l.fn.names.keys other || has (take l.name-index l.more) other)
