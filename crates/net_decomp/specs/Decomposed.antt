-- Decomposition: tables are decomposed one step after the other, always the earliest that is not
-- done, until all are done. Source: the SIS report (UCB/ERL M92/41), `decomp` and `tech_decomp`; De
-- Micheli, "Synthesis and Optimization of Digital Circuits", chapter 8 (decomposition).
use Rattle.std.specs.List.{AllByRecursion}
use Rattle.circuit_model.specs.declared.circuit.Table.{Table}
use Rattle.circuit_model.specs.declared.circuit.Circuit.{Circuit}
use Rattle.circuit_laws.specs.Greedy.{Reaches, HasEnd, HasStop, IsFirstFailing}
use Rattle.net_decomp.specs.Partings.{Parting, IsParted, IsOverfull}
use Rattle.net_decomp.specs.Rules.{IsDone, IsDecomposable}
use Rattle.net_decomp.specs.declared.rule.Rule.{Rule}

-- the earliest table of a circuit that is not done, and how it is decomposed
abbrev pub IsNext : Rule → Circuit → Table → Parting → Type 0
IsNext rule circuit table parting =
    IsFirstFailing (IsDone rule) (λ t. IsDecomposable rule t parting) circuit.tables table

-- a step: the earliest table that is not done is decomposed
pub record IsStep (rule : Rule) (circuit new : Circuit) : Type 0 where
  pub table : Table
  pub parting : Parting
  pub next : IsNext rule circuit table parting
  pub parted : IsParted circuit table parting new

-- steps lead from one circuit to another one
abbrev pub IsReached : Rule → Circuit → Circuit → Type 0
IsReached rule circuit new = Reaches (IsStep rule) circuit new

-- all tables are done
abbrev pub AllDone : Rule → Circuit → Type 0
AllDone rule circuit = AllByRecursion (IsDone rule) circuit.tables

-- steps lead to a circuit in which all tables are done
abbrev pub IsDecomposed : Rule → Circuit → Circuit → Type 0
IsDecomposed rule circuit new = HasEnd (IsStep rule) (AllDone rule) circuit new

-- there is no room for the next parts
pub record IsOver (rule : Rule) (circuit : Circuit) : Type 0 where
  pub table : Table
  pub parting : Parting
  pub next : IsNext rule circuit table parting
  pub over : IsOverfull circuit parting

-- steps lead to a circuit that has no room for the next parts
abbrev pub IsFull : Rule → Circuit → Type 0
IsFull rule circuit = HasStop (IsStep rule) (IsOver rule) circuit
