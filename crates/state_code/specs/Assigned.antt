-- What coding the states of a machine may answer.
-- Source: De Micheli, "Synthesis and Optimization of Digital Circuits", chapter 9 (state encoding).
-- The limit on inputs and state bits is the project's own.
use Rattle.std.specs.Prelude.{◌≡◌, ◌<◌, ◌≤◌, Result, Ok, Err, List}
use Rattle.circuit_model.specs.declared.circuit.Circuit.{Circuit}
use Rattle.circuit_model.specs.declared.machine.Machine.{Machine}
use Rattle.sis_base.specs.declared.limits.TheConstants.{MAX_INPUTS}
use Rattle.state_code.specs.declared.codes.Code.{Code}
use Rattle.state_code.specs.declared.codes.Style.{Style}
use Rattle.state_code.specs.declared.assigning.CodeFault.{CodeFault}
use Rattle.state_code.specs.declared.assigning.CodeFault.TheVariants.{TooWide, Memory}
use Rattle.state_code.specs.Codes.{leaf_count, codes_of}
use Rattle.state_code.specs.Encoded.{encoded}

-- the circuit of the machine and the codes of its states; or too many inputs and state bits, with
-- the machine's name and their number; or want of memory
abbrev pub HasAssigned : Machine → Style → Result (Circuit × List Code) CodeFault → Type 0
HasAssigned machine style (Ok made) =
    (leaf_count style machine ≤ MAX_INPUTS) × (made.0 ≡ encoded style machine)
    × (made.1 ≡ codes_of style machine)
HasAssigned machine style (Err (TooWide name count)) =
    (MAX_INPUTS < leaf_count style machine) × (name ≡ machine.name)
    × (count ≡ leaf_count style machine)
HasAssigned machine style (Err Memory) = Unit {0}
