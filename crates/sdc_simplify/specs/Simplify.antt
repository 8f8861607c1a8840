-- What simplifying a network answers: the simplified network, or why there is none. Source: the SIS
-- report (UCB/ERL M92/41), `simplify`; De Micheli, "Synthesis and Optimization of Digital
-- Circuits", chapter 8. The limit is the project's own.
use Rattle.std.specs.Prelude.{◌≡◌, ℕ, Result, Ok, Err, Option, Some, None, List}
use Rattle.circuit_model.specs.declared.circuit.Circuit.{Circuit}
use Rattle.sdc_simplify.specs.Simplified.{simplified, simplify_refusal}
use Rattle.sdc_simplify.specs.declared.fault.SimplifyFault.{SimplifyFault}
use Rattle.sdc_simplify.specs.declared.fault.SimplifyFault.TheVariants.{CubeLimit, Memory}

-- a refusal is the cause of a fault; want of memory needs no cause
abbrev pub IsCause : Option (List ℕ) → SimplifyFault → Type 0
IsCause refusal (CubeLimit name) = refusal ≡ Some name
IsCause refusal Memory = Unit {0}

-- a network is simplified if no list is too long; else the fault is that of the first table whose
-- list is
abbrev pub HasSimplified : Circuit → Result Circuit SimplifyFault → Type 0
HasSimplified old (Ok new) = (simplify_refusal old ≡ None) × (new ≡ simplified old)
HasSimplified old (Err fault) = IsCause (simplify_refusal old) fault
