-- The elimination of a table into one that reads it: the inner table's function replaces the signal
-- that it drives. Source: Brayton, Rudell, Sangiovanni-Vincentelli and Wang, "MIS: A Multiple-Level
-- Logic Optimization System" (1987), and the SIS report (UCB/ERL M92/41), `eliminate` and
-- `collapse`; De Micheli, "Synthesis and Optimization of Digital Circuits", chapter 8
-- (elimination). The rows are those of cover_ops; the limits are the project's own.
use Rattle.std.specs.Prelude.{ℕ, suc, Bool, false, not, ltb, ◌&&◌, ◌||◌, if◌then◌else◌, Option, Some, None, List, ◌++◌, map, filter, take, drop, length, position, bytes_eq}
use Rattle.std.specs.Option.{option_map_or}
use Rattle.circuit_model.specs.Names.{has}
use Rattle.circuit_model.specs.declared.circuit.Table.{Table}
use Rattle.cube_cover.specs.Covers.{Shape}
use Rattle.cover_ops.specs.Shannon.{list_rows}
use Rattle.cover_ops.specs.Composed.{asks, composition}
use Rattle.net_core.specs.Tables.{places_of, characters_of}
use Rattle.circuit_tables.specs.Tidy.{tidied}
use Rattle.alg_tables.specs.declared.taking.ComposeFault.{ComposeFault}
use Rattle.alg_tables.specs.declared.taking.ComposeFault.TheVariants.{CubeLimit, TooWide}
use Rattle.sis_base.specs.declared.limits.TheConstants.{MAX_INPUTS}

-- the cover of a table: its rows over its inputs
abbrev pub shape_of : Table → Shape
shape_of table = record { width = length table.inputs; rows = map places_of table.rows }

-- the index among names of each of some other names, if it has one
abbrev pub entries : List (List ℕ) → List (List ℕ) → List (Option ℕ)
entries names others = map (λ name. position (bytes_eq name) names) others

-- the other names that are not among the names, in order
abbrev pub lacking : List (List ℕ) → List (List ℕ) → List (List ℕ)
lacking names others = filter (λ name. not (has names name)) others

-- names, in which those other names that are not among them replace the one at an index
abbrev pub joined : ℕ → List (List ℕ) → List (List ℕ) → List (List ℕ)
joined place names others = take place names ++ (lacking names others ++ drop (suc place) names)

-- the column in which a table reads the signal of another one, if it does
abbrev pub read_place : Table → Table → Option ℕ
read_place inner outer = position (bytes_eq inner.output) outer.inputs

-- a table with the inner table composed in place of an input; not yet in normal form
unfoldable pub composed_at : ℕ → Table → Table → Table
composed_at place inner outer = record outer {
  inputs = joined place outer.inputs inner.inputs;
  rows = map characters_of (composition (shape_of outer) place (shape_of inner) inner.phase (entries outer.inputs inner.inputs)).rows;
}

-- the table that results if another one is eliminated into a table: the composition in normal form;
-- a table that does not read it stays as it is
unfoldable pub composed_into : Table → Table → Table
composed_into inner outer = option_map_or (λ place. tidied (composed_at place inner outer)) (read_place inner outer) outer

-- whether a row of the outer table needs the value that the inner table's rows do not give, and its
-- list has more rows than the limit
unfoldable pub is_list_long : ℕ → ℕ → Table → Table → Bool
is_list_long list_limit place inner outer =
    asks place (not inner.phase) (shape_of outer).rows && ltb list_limit (length (list_rows (shape_of inner).width false (shape_of inner).rows))

-- whether such a list, or the result, has more rows than its limit
abbrev pub is_cube_long : ℕ → ℕ → ℕ → Table → Table → Bool
is_cube_long list_limit row_limit place inner outer =
    is_list_long list_limit place inner outer || ltb row_limit (length (composed_at place inner outer).rows)

-- why a table is not eliminated into another one that reads it in a column: a list, or the result,
-- has more rows than its limit; else, the result has more than `MAX_INPUTS` inputs
abbrev pub refusal_at : ℕ → ℕ → ℕ → Table → Table → Option ComposeFault
refusal_at list_limit row_limit place inner outer =
    if is_cube_long list_limit row_limit place inner outer then Some CubeLimit
    else (if ltb MAX_INPUTS (length (composed_at place inner outer).inputs) then Some (TooWide (length (composed_at place inner outer).inputs)) else None)

-- why a table is not eliminated into another one; a table that does not read it is never refused
unfoldable pub take_refusal : ℕ → ℕ → Table → Table → Option ComposeFault
take_refusal list_limit row_limit inner outer =
    option_map_or (λ place. refusal_at list_limit row_limit place inner outer) (read_place inner outer) None
