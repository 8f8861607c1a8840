-- How long the names of a circuit that is read may be.
-- Source: the limit is the project's own; the SIS report (UCB/ERL M92/41) names none.
use Rattle.std.specs.Prelude.{ℕ, ◌≤◌, List, length}
use Rattle.std.specs.List.{AllByRecursion}
use Rattle.circuit_model.specs.Soundness.{all_names}
use Rattle.circuit_model.specs.declared.circuit.Circuit.{Circuit}
use Rattle.sis_base.specs.declared.limits.TheConstants.{MAX_NAME}

-- each name has at most `MAX_NAME` bytes
pub record HasShortNames (circuit : Circuit) : Type 0 where
  pub names : AllByRecursion (λ (name : List ℕ). length name ≤ MAX_NAME) (all_names circuit)
