-- Which tables of a circuit become trees of their own, and which are inlined into their readers.
-- Source: Keutzer, "DAGON: Technology binding and local optimization by DAG matching" (24th Design
-- Automation Conference, 1987): a network is cut into trees at the signals that are used more than
-- once. That a table used once is inlined into its reader, wherever that is, and that literals in
-- tables without a tree count as uses, is the project's own.
use Rattle.std.specs.Prelude.{◌≡◌, ℕ, zero, suc, ◌+◌, Bool, true, false, ◌&&◌, ◌||◌, Option, None, Some, List, [], ◌∷◌, map, filter, bytes_eq, if◌then◌else◌}
use Rattle.std.specs.Option.{option_map_or}
use Rattle.circuit_model.specs.Names.{has}
use Rattle.circuit_model.specs.Counts.{is_literal}
use Rattle.circuit_model.specs.Values.{driver, table_value}
use Rattle.circuit_model.specs.Soundness.{table_inputs, latch_inputs}
use Rattle.circuit_model.specs.declared.circuit.Tri.{Tri}
use Rattle.circuit_model.specs.declared.circuit.Table.{Table}
use Rattle.circuit_model.specs.declared.circuit.Circuit.{Circuit}
use Rattle.subject_tree.specs.Sizes.{word_count}
use Rattle.subject_tree.specs.Trees.{Tree, Leaf}
use Rattle.subject_tree.specs.Tables.{is_constant, table_tree}
use Rattle.subject_tree.specs.declared.judging.Role.{Role}
use Rattle.subject_tree.specs.declared.judging.Role.TheVariants.{Constant, Put, Unused, Root}

-- the number of literals of a signal in a row, over the inputs of its table
unfoldable pub uses_in_row : List ℕ → List (List ℕ) → List Tri → ℕ
uses_in_row signal [] row = 0
uses_in_row signal (input ∷ inputs) [] = 0
uses_in_row signal (input ∷ inputs) (character ∷ row) =
    (if is_literal character && bytes_eq input signal then 1 else 0) + uses_in_row signal inputs row

-- the number of literals of a signal in rows
unfoldable pub uses_in_rows : List ℕ → List (List ℕ) → List (List Tri) → ℕ
uses_in_rows signal inputs [] = 0
uses_in_rows signal inputs (row ∷ rows) = uses_in_row signal inputs row + uses_in_rows signal inputs rows

-- the uses of a signal: its literals in the rows of all tables
unfoldable pub uses_of : List Table → List ℕ → ℕ
uses_of [] signal = 0
uses_of (table ∷ tables) signal = uses_in_rows signal table.inputs table.rows + uses_of tables signal

-- the signals that must remain, whatever their uses: outputs, latch inputs, and the inputs of
-- constant tables, which are written as they are
unfoldable pub is_outer : Circuit → List ℕ → Bool
is_outer circuit signal =
    has circuit.outputs signal || has (latch_inputs circuit) signal || has (table_inputs (filter is_constant circuit.tables)) signal

-- what becomes of a table by the uses of its output: none, one, or more
abbrev pub fate_by_uses : ℕ → Role
fate_by_uses zero = Unused
fate_by_uses (suc zero) = Put
fate_by_uses (suc (suc more)) = Root

-- what becomes of a table that is constant or not, and whose output must remain or not
abbrev pub fate_by : Bool → Bool → ℕ → Role
fate_by constant outer uses = if constant then Constant else (if outer then Root else fate_by_uses uses)

-- what becomes of a table
unfoldable pub fate_of : Circuit → Table → Role
fate_of circuit table = fate_by (is_constant table) (is_outer circuit table.output) (uses_of circuit.tables table.output)

-- a count; 0 if there is none
abbrev pub count_in : Option ℕ → ℕ
count_in None = 0
count_in (Some count) = count

-- counts of signals, as words
abbrev pub AreCounts : (List ℕ → Option ℕ) → (List ℕ → ℕ) → Type 0
AreCounts counts uses = (signal : List ℕ) → count_in (counts signal) ≡ word_count (uses signal)

-- whether a table of this fate is inlined
abbrev pub is_put_fate : Role → Bool
is_put_fate Constant = false
is_put_fate Put = true
is_put_fate Unused = false
is_put_fate Root = false

-- whether the table of a signal is inlined; a signal that no table drives is not
unfoldable pub is_put : Circuit → List ℕ → Bool
is_put circuit signal = option_map_or (λ (table : Table). is_put_fate (fate_of circuit table)) (driver circuit.tables signal) false

-- the trees of signals where they are read: an inlined table has its own tree, over the trees of
-- its inputs; every other signal is a leaf
pub record AreTrees (circuit : Circuit) (tree : List ℕ → Tree (List ℕ)) : Type 0 where
  pub leaf : (signal : List ℕ) → is_put circuit signal ≡ false → tree signal ≡ Leaf signal
  pub put : (signal : List ℕ) (table : Table) → is_put circuit signal ≡ true → driver circuit.tables signal ≡ Some table → table_tree (map tree table.inputs) table ≡ Some (tree signal)

-- each signal whose table is inlined has its table's value, whatever the other signals are
abbrev pub PutObey : Circuit → (List ℕ → Bool) → Type 0
PutObey circuit value =
    (signal : List ℕ) (table : Table) → is_put circuit signal ≡ true → driver circuit.tables signal ≡ Some table → value signal ≡ table_value table (map value table.inputs)

-- the table of a signal, if it is inlined
unfoldable pub put_driver : Circuit → List ℕ → Option Table
put_driver circuit signal = if is_put circuit signal then driver circuit.tables signal else None
