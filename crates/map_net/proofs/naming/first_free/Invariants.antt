use Rattle.std.proofs.Common.{◌≡◌, ℕ, ◌<◌, ◌≤◌, true}
use Rattle.circuit_model.specs.Names.{has}
use Rattle.net_core.specs.Fresh.{bracketed}
use Rattle.map_net.proofs.naming.first_free.Given as goal

abbrev pub invariant-loop-number : goal.invariant-loop-number
invariant-loop-number l = (k : ℕ) → l.start ≤ k → k < l.number
    → has l.used.keys (bracketed k) ≡ true
