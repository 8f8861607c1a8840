-- The two parts of a circuit, and the functions of the signals of each.
-- Source: De Micheli, "Synthesis and Optimization of Digital Circuits", chapter 8 (logic networks,
-- and their don't-care conditions).
use Rattle.std.specs.Prelude.{ℕ, Bool, ◌||◌, List}
use Rattle.circuit_model.specs.Names.{has}
use Rattle.circuit_model.specs.Soundness.{outputs_of, leaf_names}
use Rattle.circuit_model.specs.declared.circuit.Table.{Table}
use Rattle.circuit_model.specs.declared.circuit.Circuit.{Circuit}
use Rattle.func_core.specs.Trees.{BooleanFunction}
use Rattle.net_func.specs.Signals.{own_function, free_function}
use Rattle.net_func.specs.declared.parts.Part.{Part}
use Rattle.net_func.specs.declared.parts.Part.TheVariants.{Tables, DontCare}

-- the tables of a part
abbrev pub part_tables : Part → Circuit → List Table
part_tables Tables circuit = circuit.tables
part_tables DontCare circuit = circuit.dont_care

-- the function of a signal of a part
abbrev pub part_function : Part → Circuit → List ℕ → BooleanFunction
part_function Tables circuit = own_function circuit
part_function DontCare circuit = free_function circuit

-- whether a name is a leaf or the signal of a table of a part
abbrev pub is_part_signal : Part → Circuit → List ℕ → Bool
is_part_signal part circuit = λ name.
    has (leaf_names circuit) name || has (outputs_of (part_tables part circuit)) name
