use Rattle.std.proofs.Common.{◌≡◌, ℕ, ◌<◌, true}
use Rattle.circuit_model.specs.Names.{has}
use Rattle.net_core.specs.Fresh.{bracketed, used_names}
use Rattle.net_core.proofs.network.Network.new_name.Given as goal

abbrev pub invariant-loop-number : goal.invariant-loop-number
invariant-loop-number g l = (k : ℕ) → k < l.number → has (used_names l.self) (bracketed k) ≡ true
