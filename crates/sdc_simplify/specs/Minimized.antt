-- A table made minimal where some points of its inputs are free. Source: De Micheli, "Synthesis and
-- Optimization of Digital Circuits", chapters 7 and 8 (two-level minimization of the local function
-- of a vertex under don't-cares). The rows are those of cover_min, the limit of `MAX_ROWS` rows is
-- the project's own.
use Rattle.std.specs.Prelude.{Bool, true, false, not, ltb, ◌&&◌, if◌then◌else◌, Option, List, map, length}
use Rattle.circuit_model.specs.Values.{table_value}
use Rattle.circuit_model.specs.declared.circuit.Table.{Table}
use Rattle.cover_ops.specs.Shannon.{list_rows}
use Rattle.cover_min.specs.Minimum.{Meaning, minimum_rows}
use Rattle.net_core.specs.Tables.{places_of, characters_of}
use Rattle.circuit_tables.specs.Tidy.{tidied}
use Rattle.sis_base.specs.declared.limits.TheConstants.{MAX_ROWS}

-- the rows where a table's function is 1: its own rows if its phase is 1, and the on-list otherwise
unfoldable pub on_rows : Table → List (List (Option Bool))
on_rows table =
    if table.phase then map places_of table.rows else list_rows (length table.inputs) false (map places_of table.rows)

-- the function of a table, where the points that pass a test are free
abbrev pub meaning_of : Table → (List Bool → Bool) → Meaning
meaning_of table is_free = record {
  width = length table.inputs;
  on = λ point. table_value table point && not (is_free point);
  off = λ point. not (table_value table point) && not (is_free point);
}

-- the table of phase 1 whose rows are the minimum of its function, where the points that pass a
-- test are free; not yet in its normal form
abbrev pub with_minimum_rows : Table → (List Bool → Bool) → Table
with_minimum_rows table is_free =
    record table { rows = map characters_of (minimum_rows (meaning_of table is_free) (on_rows table)); phase = true }

-- the minimum of a table in its normal form
unfoldable pub minimized : Table → (List Bool → Bool) → Table
minimized table is_free = tidied (with_minimum_rows table is_free)

-- whether a table's on-list must be made, and has more than `MAX_ROWS` rows
unfoldable pub is_list_long : Table → Bool
is_list_long table = not table.phase && ltb MAX_ROWS (length (list_rows (length table.inputs) false (map places_of table.rows)))
