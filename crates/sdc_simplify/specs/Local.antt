-- Local don't-cares of a table: the points that cannot occur, as far as the tables of its inputs
-- alone show.
-- Source: De Micheli, "Synthesis and Optimization of Digital Circuits", chapter 8 (satisfiability
-- don't-care conditions); the SIS report (UCB/ERL M92/41), `simplify`, of which this is a smaller
-- set: inputs whose tables read only what the table itself reads.
use Rattle.std.specs.Prelude.{ℕ, Bool, false, not, ◌&&◌, Some, List, map, unwrap_or}
use Rattle.std.specs.List.{list_any, list_all}
use Rattle.std.specs.Option.{option_map_or}
use Rattle.sis_base.specs.Rows.{agrees}
use Rattle.circuit_model.specs.Names.{has}
use Rattle.circuit_model.specs.Runs.{bit_of}
use Rattle.circuit_model.specs.Values.{driver, table_value}
use Rattle.circuit_model.specs.declared.circuit.Table.{Table}
use Rattle.circuit_model.specs.declared.circuit.Circuit.{Circuit}

-- the bit that a point of a table's inputs has at one of them, in its first column if it occurs
-- twice; 0 at another name
abbrev pub input_bit : Table → List Bool → List ℕ → Bool
input_bit table point input = unwrap_or (bit_of table.inputs point input) false

-- whether all inputs of one table are inputs of another one
abbrev pub reads_within : Table → Table → Bool
reads_within inner table = list_all (has table.inputs) inner.inputs

-- whether a point of a table's inputs has at one of them another bit than the inner table that
-- drives it gives there; an inner table that reads anything else than the table does not count
abbrev pub differs : Table → List Bool → List ℕ → Table → Bool
differs table point input inner =
    reads_within inner table && not (agrees (Some (input_bit table point input)) (table_value inner (map (input_bit table point) inner.inputs)))

-- whether a point of a table's inputs is a local don't-care: the bit of some input differs from the
-- value of its inner table
unfoldable pub is_local : Circuit → Table → List Bool → Bool
is_local circuit table point =
    list_any (λ input. option_map_or (differs table point input) (driver circuit.tables input) false) table.inputs
