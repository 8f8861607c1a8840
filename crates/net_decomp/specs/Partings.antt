-- Parts of a table that become tables of their own, over whose signals the table is rewritten.
-- Source: Brayton, Rudell, Sangiovanni-Vincentelli and Wang, "MIS: A Multiple-Level Logic
-- Optimization System" (1987), and the SIS report (UCB/ERL M92/41), `decomp` and `tech_decomp`; De
-- Micheli, "Synthesis and Optimization of Digital Circuits", chapter 8 (decomposition of a vertex).
-- That new signals take the least free name in brackets, and the limit of `MAX_NODES` nodes, are
-- the project's own.
use Rattle.std.specs.Prelude.{◌≡◌, ◌≢◌, ℕ, ◌+◌, ◌<◌, Bool, true, Option, List, [], ◌∷◌, ◌++◌, map, length}
use Rattle.circuit_model.specs.declared.circuit.Table.{Table}
use Rattle.circuit_model.specs.declared.circuit.Circuit.{Circuit}
use Rattle.circuit_laws.specs.Edits.{with_added, with_replaced}
use Rattle.net_core.specs.Fresh.{IsNewName, node_count}
use Rattle.net_core.specs.Tables.{places_of, characters_of}
use Rattle.circuit_tables.specs.Tidy.{tidied}
use Rattle.sis_base.specs.declared.limits.TheConstants.{MAX_NODES}

-- lists of rows over the inputs of a table, each of which is to become a table; and the rows that
-- the table then has, over its inputs and one more input for each of those tables
pub record Parting : Type 0 where
  pub parts : List (List (List (Option Bool)))
  pub rows : List (List (Option Bool))

-- the rows of a table, column by column
abbrev pub rows_of : Table → List (List (Option Bool))
rows_of table = map places_of table.rows

-- the table of a part under a name, in its normal form: its phase is 1
unfoldable pub part_table : Table → List (List (Option Bool)) → List ℕ → Table
part_table table part name = tidied (record { inputs = table.inputs; output = name; rows = map characters_of part; phase = true })

-- parts of a table are added as tables, one after the other, each under the least name that is then
-- free
abbrev pub ArePartsAdded : Table → List (List (List (Option Bool))) → Circuit → List (List ℕ) → Circuit → Type 0
ArePartsAdded table [] circuit names new = (names ≡ []) × (new ≡ circuit)
ArePartsAdded table (part ∷ parts) circuit [] new = ⊥
ArePartsAdded table (part ∷ parts) circuit (name ∷ names) new =
    IsNewName circuit name × ArePartsAdded table parts (with_added circuit (part_table table part name)) names new

-- the table over its inputs and the signals of its parts, in its normal form
unfoldable pub parted_table : Table → List (List ℕ) → List (List (Option Bool)) → Table
parted_table table names rows = tidied (record table { inputs = table.inputs ++ names; rows = map characters_of rows })

-- there are parts, and with them there would be more nodes than are allowed
abbrev pub IsOverfull : Circuit → Parting → Type 0
IsOverfull circuit parting = (parting.parts ≢ []) × (MAX_NODES < node_count circuit + length parting.parts)

-- a table of a circuit is decomposed: there is room for its parts, they are added, and it is
-- rewritten over their signals at its index
pub record IsParted (circuit : Circuit) (table : Table) (parting : Parting) (new : Circuit) : Type 0 where
  pub room : IsOverfull circuit parting → ⊥
  pub names : List (List ℕ)
  pub between : Circuit
  pub added : ArePartsAdded table parting.parts circuit names between
  pub made : new ≡ with_replaced between (parted_table table names parting.rows)
