use Rattle.std.proofs.Common.{◌≡◌, ℕ, ◌||◌, ◌&&◌, not, List, take}
use Rattle.circuit_model.specs.Names.{has}
use Rattle.net_wires.proofs.leaves.add_undriven.Given as goal

abbrev pub invariant-loop-name : goal.invariant-loop-name
invariant-loop-name l = (name : List ℕ) → has l.names.keys name ≡ (has l.fn.names.keys name || (not (has l.driven.keys name) && has (take l.name-index l.more) name))
