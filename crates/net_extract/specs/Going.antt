-- Steps of extraction on a working network, and why they stop. No public clause needs these
-- definitions but `fault_of`. Source: Brayton, Rudell, Sangiovanni-Vincentelli and Wang, "MIS: A
-- Multiple-Level Logic Optimization System" (1987): a command applies an operation to one node
-- after the other.
use Rattle.std.specs.Prelude.{◌≡◌, ℕ, ◌≤◌, ◌<◌, Err, List}
use Rattle.std.specs.List.{AllByRecursion}
use Rattle.circuit_model.specs.Counts.{literals_of}
use Rattle.circuit_model.specs.Soundness.{IsSound}
use Rattle.circuit_model.specs.declared.circuit.Circuit.{Circuit}
use Rattle.net_candidates.specs.Extracting.{extracted, IsStep, IsReached, IsOver, IsFirstMany}
use Rattle.net_candidates.specs.declared.rule.Rule.{Rule}
use Rattle.net_savings.specs.declared.fault.SavingsFault.{SavingsFault}
use Rattle.net_savings.specs.declared.fault.SavingsFault.TheVariants.{ManyKernels, Memory as SavingsMemory}
use Rattle.cover_names.specs.Literals.{NamedCover}
use Rattle.net_core.specs.Fresh.{IsNewName, node_count}
use Rattle.net_core.specs.Reads.{IsBounded, HasBounds}
use Rattle.net_work.specs.Placed.{Placed, standing, circuit_of}
use Rattle.net_extract.specs.Extract.{HasExtracted}
use Rattle.net_extract.specs.declared.fault.ExtractFault.{ExtractFault}
use Rattle.net_extract.specs.declared.fault.ExtractFault.TheVariants.{KernelLimit, NodeLimit, Memory}
use Rattle.sis_base.specs.declared.limits.TheConstants.{MAX_NODES}

-- why there is no step; running out of memory needs no cause
abbrev pub IsStopped : Rule → Circuit → ExtractFault → Type 0
IsStopped rule circuit (KernelLimit name) = IsFirstMany rule circuit.tables name
IsStopped rule circuit NodeLimit = IsOver rule circuit
IsStopped rule circuit Memory = Unit {0}

-- why nothing is extracted if the candidates are not listed
abbrev pub fault_of : SavingsFault → ExtractFault
fault_of (ManyKernels name) = KernelLimit name
fault_of SavingsMemory = Memory

-- why a table is not added; running out of memory needs no cause
abbrev pub IsNotAdded : Circuit → ExtractFault → Type 0
IsNotAdded circuit (KernelLimit name) = ⊥
IsNotAdded circuit NodeLimit = MAX_NODES ≤ node_count circuit
IsNotAdded circuit Memory = Unit {0}

-- a cover was extracted under the new name; tables keep within their bounds
pub record IsPut (cover : NamedCover) (before now : Placed) : Type 0 where
  pub name : List ℕ
  pub free : IsNewName (circuit_of before) name
  pub room : node_count (circuit_of before) < MAX_NODES
  pub made : circuit_of now ≡ extracted (circuit_of before) name cover
  pub bounded : AllByRecursion IsBounded (standing before.slots) → AllByRecursion IsBounded (standing now.slots)

-- a step was taken, which leaves fewer literals
pub record IsTaken (rule : Rule) (before now : Placed) : Type 0 where
  pub step : IsStep rule (circuit_of before) (circuit_of now)
  pub fewer : literals_of (circuit_of now) < literals_of (circuit_of before)
  pub bounded : AllByRecursion IsBounded (standing before.slots) → AllByRecursion IsBounded (standing now.slots)

-- steps lead from one network to another one
pub record IsAlong (rule : Rule) (before now : Placed) : Type 0 where
  pub reached : IsReached rule (circuit_of before) (circuit_of now)
  pub sound : IsSound (circuit_of now)
  pub bounds : HasBounds (circuit_of before) → HasBounds (circuit_of now)

-- why steps end before a circuit is done
abbrev pub IsEnd : Rule → Circuit → ExtractFault → Type 0
IsEnd rule old fault = HasExtracted rule old (Err fault)
