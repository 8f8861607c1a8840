use Rattle.std.proofs.Common.{◌≡◌, ℕ, false, List, take}
use Rattle.circuit_model.specs.Names.{has}
use Rattle.net_savings.proofs.kept.push_names.Given as goal

abbrev pub invariant-loop-name : goal.invariant-loop-name
invariant-loop-name l = (name : List ℕ) → has l.names.keys name ≡ false → (has l.fn.names.keys name ≡ false) × (has (take l.name-index l.more) name ≡ false)
