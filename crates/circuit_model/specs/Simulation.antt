-- What a simulation answers.
-- Source: BLIF appendix of the SIS report (UCB/ERL M92/41): a latch is one clock step of delay.
use Rattle.std.specs.Prelude.{◌≡◌, Bool, List, length, Result, Ok, Err}
use Rattle.std.specs.List.{AllByRecursion}
use Rattle.circuit_model.specs.Runs.{run, IsInputRow}
use Rattle.circuit_model.specs.declared.circuit.Tri.{Tri}
use Rattle.circuit_model.specs.declared.circuit.Circuit.{Circuit}
use Rattle.circuit_model.specs.declared.simulation.SimFault.{SimFault}
use Rattle.circuit_model.specs.declared.simulation.SimFault.TheVariants.{BadWidth, Memory}

-- a start has one bit for each latch, and each input row one for each input
pub record Fits (circuit : Circuit) (start : List Bool) (rows : List (List Bool)) : Type 0 where
  pub latches : length start ≡ length circuit.latches
  pub inputs : AllByRecursion (IsInputRow circuit) rows

-- a simulation returns the run, a fault of widths exactly if start and rows do not fit, and
-- otherwise can only want memory
abbrev pub Simulates : Circuit → List Bool → List (List Bool) → Result (List (List Tri)) SimFault → Type 0
Simulates circuit start rows (Ok shown) = Fits circuit start rows × (shown ≡ run circuit start rows)
Simulates circuit start rows (Err BadWidth) = Fits circuit start rows → ⊥
Simulates circuit start rows (Err Memory) = Fits circuit start rows
