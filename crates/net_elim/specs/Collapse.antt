-- The result of collapsing a network: the collapsed network, or why there is none. Source: the SIS
-- report (UCB/ERL M92/41), `collapse`; De Micheli, "Synthesis and Optimization of Digital
-- Circuits", chapter 8. The limits are the project's own.
use Rattle.std.specs.Prelude.{◌≡◌, ℕ, Result, Ok, Err, Option, Some, None, List}
use Rattle.circuit_model.specs.declared.circuit.Circuit.{Circuit}
use Rattle.alg_tables.specs.declared.taking.ComposeFault.{ComposeFault}
use Rattle.alg_tables.specs.declared.taking.ComposeFault.TheVariants.{CubeLimit as LongTable, TooWide as WideTable, Memory as NoMemory}
use Rattle.net_elim.specs.Collapsing.{collapsed, collapse_refusal}
use Rattle.net_elim.specs.declared.fault.CollapseFault.{CollapseFault}
use Rattle.net_elim.specs.declared.fault.CollapseFault.TheVariants.{CubeLimit, TooWide, Memory}

-- the fault of a network for the fault of the table with a name
abbrev pub told : List ℕ → ComposeFault → CollapseFault
told name LongTable = CubeLimit name
told name (WideTable count) = TooWide name count
told name NoMemory = Memory

-- a refusal is the cause of a fault; running out of memory needs no cause
abbrev pub IsCause : Option (List ℕ × ComposeFault) → CollapseFault → Type 0
IsCause refusal (CubeLimit name) = refusal ≡ Some (name, LongTable)
IsCause refusal (TooWide name count) = refusal ≡ Some (name, WideTable count)
IsCause refusal Memory = Unit {0}

-- a network is collapsed if nothing refuses; else the fault is that of the first fanout that
-- refuses
abbrev pub HasCollapsed : Circuit → Result Circuit CollapseFault → Type 0
HasCollapsed old (Ok new) = (collapse_refusal old ≡ None) × (new ≡ collapsed old)
HasCollapsed old (Err fault) = IsCause (collapse_refusal old) fault
