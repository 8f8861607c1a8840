-- The rules of sweep, each a step from a circuit to the next one, if it applies. Source: the SIS
-- manual (UCB/ERL M92/41), `sweep`: constants are propagated, tables of one input are collapsed
-- into their fanouts, latches that always hold one bit become constants, and what is not needed is
-- removed.
use Rattle.std.specs.Prelude.{ℕ, Bool, true, false, not, ◌&&◌, ◌||◌, ◌==◌, Option, Some, None, is_some, List, [], ◌∷◌, map, find, bytes_eq, if◌then◌else◌}
use Rattle.std.specs.Option.{option_map, option_map_or, option_or}
use Rattle.std.specs.List.{filter_map}
use Rattle.circuit_model.specs.Names.{has}
use Rattle.circuit_model.specs.Values.{table_value, driver}
use Rattle.circuit_model.specs.Soundness.{table_inputs}
use Rattle.circuit_model.specs.declared.circuit.Tri.{Tri}
use Rattle.circuit_model.specs.declared.circuit.Tri.TheVariants.{Zero, One, Free}
use Rattle.circuit_model.specs.declared.circuit.Table.{Table}
use Rattle.circuit_model.specs.declared.circuit.Latch.{Latch}
use Rattle.circuit_model.specs.declared.circuit.Circuit.{Circuit}
use Rattle.circuit_laws.specs.Edits.{with_tables, with_replaced, with_fixed, constant_table}
use Rattle.circuit_tables.specs.Tidy.{tidied, is_tidy}
use Rattle.net_wires.specs.Points.{constant_bit, written_bit}
use Rattle.net_wires.specs.Needed.{dont_care_reads, all_needed, only_needed}

-- the first table that is not tidy is tidied
unfoldable pub tidy_table : Circuit → Option Circuit
tidy_table circuit = option_map (λ table. with_replaced circuit (tidied table)) (find (λ table. not (is_tidy table)) circuit.tables)

-- the constant as which a table should be written, if it is constant and written otherwise
unfoldable pub unwritten_bit : Table → Option Bool
unwritten_bit table = if is_some (written_bit table) then None else constant_bit table

-- the circuit with a constant table written as the constant
abbrev pub with_constant : Circuit → Table → Circuit
with_constant circuit table = option_map_or (λ bit. with_replaced circuit (constant_table table.output bit)) (unwritten_bit table) circuit

-- the first table that is constant and written otherwise is written as the constant
unfoldable pub write_constant : Circuit → Option Circuit
write_constant circuit = option_map (with_constant circuit) (find (λ table. is_some (unwritten_bit table)) circuit.tables)

-- whether some table reads a signal
abbrev pub tables_read : Circuit → List ℕ → Bool
tables_read circuit name = has (table_inputs circuit.tables) name

-- whether a character contradicts a signal of the given bit
abbrev pub asks_against : Bool → Tri → Bool
asks_against true Zero = true
asks_against false One = true
asks_against bit place = false

-- a row in which a signal has a bit: its literal is removed, or the row is, if the literal
-- contradicts the bit
unfoldable pub row_at_bit : List ℕ → Bool → List (List ℕ) → List Tri → Option (List Tri)
row_at_bit name bit [] row = Some row
row_at_bit name bit (input ∷ inputs) [] = Some []
row_at_bit name bit (input ∷ inputs) (place ∷ row) =
    if bytes_eq name input
    then (if asks_against bit place then None else option_map (λ (rest : List Tri). Free ∷ rest) (row_at_bit name bit inputs row))
    else option_map (λ (rest : List Tri). place ∷ rest) (row_at_bit name bit inputs row)

-- a table that reads a signal of the given bit, simplified by it and tidied; other tables stay
unfoldable pub at_bit : List ℕ → Bool → Table → Table
at_bit name bit table =
    if has table.inputs name then tidied (record table { rows = filter_map (row_at_bit name bit table.inputs) table.rows }) else table

-- the circuit with a written constant propagated into its fanouts
abbrev pub with_constant_propagated : Circuit → Table → Circuit
with_constant_propagated circuit constant =
    option_map_or (λ bit. with_tables circuit (map (at_bit constant.output bit) circuit.tables)) (written_bit constant) circuit

-- the first written constant that tables read is propagated into them
unfoldable pub propagate_constant : Circuit → Option Circuit
propagate_constant circuit =
    option_map (with_constant_propagated circuit)
    (find (λ (table : Table). is_some (written_bit table) && tables_read circuit table.output) circuit.tables)

-- a name, or the one that replaces it
abbrev pub renamed : List ℕ → List ℕ → List ℕ → List ℕ
renamed from to name = if bytes_eq from name then to else name

-- the complement of a character: 0 and 1 are exchanged, a dash stays
abbrev pub turned_over : Tri → Tri
turned_over Zero = One
turned_over One = Zero
turned_over Free = Free

-- a row with the characters in a signal's columns complemented
unfoldable pub row_turned : List ℕ → List (List ℕ) → List Tri → List Tri
row_turned name [] row = row
row_turned name (input ∷ inputs) [] = []
row_turned name (input ∷ inputs) (place ∷ row) = (if bytes_eq name input then turned_over place else place) ∷ row_turned name inputs row

-- a table that reads one signal instead of another, complemented if asked, tidied; other tables
-- stay
unfoldable pub rewired : List ℕ → List ℕ → Bool → Table → Table
rewired from to inverts table =
    if has table.inputs from
    then tidied (record table {
      inputs = map (renamed from to) table.inputs;
      rows = if inverts then map (row_turned from table.inputs) table.rows else table.rows;
    })
    else table

-- the only input of a table, if it has exactly one
abbrev pub only_input : List (List ℕ) → Option (List ℕ)
only_input (input ∷ []) = Some input
only_input inputs = None

-- whether a table of one input inverts it: its value is 0 if the input is 1
abbrev pub is_inverter : Table → Bool
is_inverter table = not (table_value table (true ∷ []))

-- the circuit in which the fanouts of a table of one input read that input instead
abbrev pub with_single_input_collapsed : Circuit → Table → Circuit
with_single_input_collapsed circuit table =
    option_map_or (λ input. with_tables circuit (map (rewired table.output input (is_inverter table)) circuit.tables)) (only_input table.inputs) circuit

-- the first table of one input that tables read is collapsed into them
unfoldable pub collapse_single_input : Circuit → Option Circuit
collapse_single_input circuit =
    option_map (with_single_input_collapsed circuit)
    (find (λ (table : Table). is_some (only_input table.inputs) && tables_read circuit table.output) circuit.tables)

-- whether a latch may start at a bit and need not start at the other one: its initial value is that
-- bit, or 2
abbrev pub starts_at : ℕ → Bool → Bool
starts_at init true = init == 1 || init == 2
starts_at init false = init == 0 || init == 2

-- the bit that a latch takes at each step, if its input is a table that is written as that constant
abbrev pub input_bit : Circuit → Latch → Option Bool
input_bit circuit latch = option_map_or written_bit (driver circuit.tables latch.input) None

-- the bit, if the latch may start at it and need not start at the other one, and the don't-care
-- part does not read the latch
abbrev pub bit_from_start : Circuit → Latch → Bool → Option Bool
bit_from_start circuit latch bit = if starts_at latch.init bit && not (dont_care_reads circuit latch.output) then Some bit else None

-- the bit that a latch always holds: it may start there, need not start at the other one, and takes
-- it at each step; and the don't-care part does not read it
unfoldable pub fixed_bit : Circuit → Latch → Option Bool
fixed_bit circuit latch = option_map_or (bit_from_start circuit latch) (input_bit circuit latch) None

-- the circuit in which a latch that always holds one bit is replaced by the constant table of its
-- name, which comes last
abbrev pub with_latch_fixed : Circuit → Latch → Circuit
with_latch_fixed circuit latch = option_map_or (λ bit. with_fixed circuit latch.output bit) (fixed_bit circuit latch) circuit

-- the first latch that always holds one bit becomes a constant
unfoldable pub fix_constant_latch : Circuit → Option Circuit
fix_constant_latch circuit = option_map (with_latch_fixed circuit) (find (λ (latch : Latch). is_some (fixed_bit circuit latch)) circuit.latches)

-- what is not needed is removed
unfoldable pub remove_dangling : Circuit → Option Circuit
remove_dangling circuit = if all_needed circuit then None else Some (only_needed circuit)

-- the next step of sweep: the rules are tried in this order, and each applies to the first table or
-- latch that it fits
unfoldable pub sweep_step : Circuit → Option Circuit
sweep_step circuit =
    option_or (tidy_table circuit) (option_or (write_constant circuit) (option_or (propagate_constant circuit)
    (option_or (collapse_single_input circuit) (option_or (fix_constant_latch circuit) (remove_dangling circuit)))))
