use Rattle.std.proofs.Common.{◌≡◌, ℕ, ◌<◌, true}
use Rattle.circuit_model.specs.Names.{has}
use Rattle.net_core.specs.Fresh.{bracketed, used_names}
use Rattle.net_work.specs.Placed.{circuit_of}
use Rattle.net_work.proofs.work.WorkingNetwork.free_number.Given as goal

abbrev pub invariant-loop-number : goal.invariant-loop-number
invariant-loop-number g l = (k : ℕ) → k < l.number → has (used_names (circuit_of l.self)) (bracketed k) ≡ true
