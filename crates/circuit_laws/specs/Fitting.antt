-- When a table may be part of a sound circuit. Source: BLIF appendix of the SIS report (UCB/ERL
-- M92/41), `.names`.
use Rattle.std.specs.Prelude.{◌≡◌, true}
use Rattle.std.specs.List.{AllByRecursion}
use Rattle.circuit_model.specs.Names.{has, all_different}
use Rattle.circuit_model.specs.Soundness.{given, IsShaped}
use Rattle.circuit_model.specs.declared.circuit.Table.{Table}
use Rattle.circuit_model.specs.declared.circuit.Circuit.{Circuit}

-- its inputs are signals that something drives, each once; each row has one character for each
-- input; and its phase is 1 where it has no row
pub record IsFitting (circuit : Circuit) (new : Table) : Type 0 where
  pub live : AllByRecursion (λ name. has (given circuit) name ≡ true) new.inputs
  pub once : all_different new.inputs ≡ true
  pub shaped : IsShaped new
