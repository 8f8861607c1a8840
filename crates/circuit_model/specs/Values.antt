-- The values of tables and signals. Source: BLIF appendix of the SIS report (UCB/ERL M92/41),
-- `.names` and `.exdc`; De Micheli, "Synthesis and Optimization of Digital Circuits", chapter 8
-- (logic networks): the value of a node is that of its local function at the values of its fanins.
use Rattle.std.specs.Prelude.{ℕ, zero, suc, Bool, true, false, Option, Some, None, List, map, find, length, bytes_eq, unwrap_or, is_some, ◌&&◌, if◌then◌else◌}
use Rattle.sis_base.specs.Rows.{value_by_phase}
use Rattle.circuit_model.specs.declared.circuit.Tri.{Tri}
use Rattle.circuit_model.specs.declared.circuit.Tri.TheVariants.{Zero, One, Free}
use Rattle.circuit_model.specs.declared.circuit.Table.{Table}

-- the literal of a row's character: `0` the negative one, `1` the positive one, `-` none
abbrev pub literal_of : Tri → Option Bool
literal_of Zero = Some false
literal_of One = Some true
literal_of Free = None

-- the value of a table at a point, which gives its inputs' bits in order: the phase if a row
-- matches the point, otherwise its complement
unfoldable pub table_value : Table → List Bool → Bool
table_value table point = value_by_phase table.phase (map (map literal_of) table.rows) point

-- the table that drives a signal: the first with that output
unfoldable pub driver : List Table → List ℕ → Option Table
driver tables signal = find (λ (table : Table). bytes_eq signal table.output) tables

-- a leaf assignment gives each leaf a bit, and no bit to other signals
abbrev pub Leaves : Type 0
Leaves = List ℕ → Option Bool

-- the value of a driven signal, given the values of its table's inputs; false if nothing drives it
abbrev pub driven_value : Option Table → (List ℕ → Bool) → Bool
driven_value None value = false
driven_value (Some table) value = table_value table (map value table.inputs)

-- the value of a signal to a depth: a leaf has its bit; at depth 0 every other signal is 0; at a
-- greater depth it is its table's value at the values of the table's inputs to one depth less
unfoldable pub value_to : List Table → Leaves → ℕ → List ℕ → Bool
value_to tables leaves zero signal = unwrap_or (leaves signal) false
value_to tables leaves (suc depth) signal =
    unwrap_or (leaves signal) (driven_value (driver tables signal) (value_to tables leaves depth))

-- the value of a signal: to the depth that is the number of tables
unfoldable pub signal_value : List Table → Leaves → List ℕ → Bool
signal_value tables leaves signal = value_to tables leaves (length tables) signal

-- in the don't-care part a name is the part's own table if there is one, and a leaf only if there
-- is none
unfoldable pub dont_care_leaves : List Table → Leaves → Leaves
dont_care_leaves part leaves name = if is_some (driver part name) then None else leaves name

-- whether an output is free: it has a don't-care table, and that is 1
unfoldable pub is_free_under : List Table → Leaves → List ℕ → Bool
is_free_under part leaves output = is_some (driver part output) && signal_value part (dont_care_leaves part leaves) output
