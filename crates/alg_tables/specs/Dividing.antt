-- The division of a table by a cover of literals by name, which a signal then replaces. Source:
-- Brayton, Rudell, Sangiovanni-Vincentelli and Wang, "MIS: A Multiple-Level Logic Optimization
-- System" (1987): weak division and resubstitution; De Micheli, "Synthesis and Optimization of
-- Digital Circuits", chapter 8 (algebraic division, extraction).
use Rattle.std.specs.Prelude.{◌≡◌, ℕ, Bool, true, false, not, ◌&&◌, ◌||◌, if◌then◌else◌, Option, Some, None, List, [], ◌∷◌, ◌++◌, map, filter, length}
use Rattle.std.specs.List.{list_all, list_any}
use Rattle.std.specs.Ordering.{nat_cmp}
use Rattle.std.specs.Cmp.Lexicographic.{slice_cmp}
use Rattle.circuit_model.specs.declared.circuit.Table.{Table}
use Rattle.alg_div.specs.Cubes.{times, products, row_eq}
use Rattle.alg_div.specs.Quotient.{others}
use Rattle.alg_div.specs.Steps.{strip, support}
use Rattle.cover_names.specs.Literals.{NamedCover, sorted}
use Rattle.cover_names.specs.Cubes.{row_over, is_over, names_in}
use Rattle.net_core.specs.Tables.{places_of, characters_of}
use Rattle.net_core.specs.declared.table.CoverTable.{CoverTable}
use Rattle.circuit_tables.specs.Tidy.{tidied}
use Rattle.alg_tables.specs.declared.dividing.Division.{Division}

-- the distinct rows, in the order of their first occurrence
unfoldable pub firsts : List (List (Option Bool)) → List (List (Option Bool))
firsts [] = []
firsts (row ∷ rows) = row ∷ filter (λ other. not (row_eq row other)) (firsts rows)

-- whether a row of f is the product of the divisor's first cube and a cube, which is the row
-- without the divisor's variables, and the products of that cube and the divisor's other cubes are
-- rows of f as well
abbrev pub is_made : ℕ → List (List (Option Bool)) → List (Option Bool) → List (List (Option Bool))
    → List (Option Bool) → Bool
is_made width f first d row =
    let cube = strip (support width d) row in
    row_eq (times cube first) row && list_all (λ other. list_any (row_eq (times cube other)) f) d

-- the quotient of rows f by rows d, in the order in which f has the products with the first row of
-- d; alg_div defines what a quotient is
unfoldable pub quotient : ℕ → List (List (Option Bool)) → List (List (Option Bool))
    → List (List (Option Bool))
quotient width f [] = []
quotient width f (first ∷ d) = map (strip (support width (first ∷ d)))
    (filter (is_made width f first (first ∷ d)) (firsts f))

-- a table of the quotient's cubes with the literal of a signal, its last input, followed by the
-- rows of the remainder
unfoldable pub rejoined : List ℕ → Bool → Table → List (List (Option Bool))
    → List (List (Option Bool)) → Table
rejoined name bit table d q = record table {
  inputs = table.inputs ++ name ∷ [];
  rows = map characters_of (map (λ row. row ++ Some bit ∷ []) q
      ++ map (λ row. row ++ None ∷ []) (others (map places_of table.rows) (products q d)));
}

-- whether a quotient has no cube
abbrev pub has_no_cube : List (List (Option Bool)) → Bool
has_no_cube [] = true
has_no_cube (row ∷ rows) = false

-- the quotient of a table's rows by a cover over the table's inputs
abbrev pub quotient_by : NamedCover → Table → List (List (Option Bool))
quotient_by cover table =
    quotient (length table.inputs) (map places_of table.rows) (map (row_over table.inputs) cover)

-- whether a cover does not divide a table: the table does not read all that the cover reads, or the
-- quotient has no cube
abbrev pub is_undivided : NamedCover → Table → Bool
is_undivided cover table = not (is_over table.inputs cover) || has_no_cube (quotient_by cover table)

-- the rows of a cover over a table's inputs, and the quotient and the remainder of the table's rows
-- by them
pub record IsDivision {R : Type 0} (cover : NamedCover) (table : CoverTable R)
    (parts : Division R) : Type 0 where
  pub divisor : parts.divisor.rows ≡ map (row_over table.inputs) cover
  pub quotient : parts.quotient.rows
      ≡ quotient (length table.inputs) table.cover.rows (map (row_over table.inputs) cover)
  pub remainder : parts.remainder.rows
      ≡ others table.cover.rows (products parts.quotient.rows parts.divisor.rows)
  pub quotient_wide : parts.quotient.width ≡ length table.inputs
  pub remainder_wide : parts.remainder.width ≡ length table.inputs

-- a table divided by a cover, which the literal of a signal then replaces: the rejoined table in
-- normal form; the table itself if the cover does not divide it
unfoldable pub divided : List ℕ → Bool → NamedCover → Table → Table
divided name bit cover table =
    if is_undivided cover table then table
    else tidied (rejoined name bit table (map (row_over table.inputs) cover)
    (quotient_by cover table))

-- the names of a cover, sorted byte by byte, each once
abbrev pub sorted_names : NamedCover → List (List ℕ)
sorted_names cover = sorted (slice_cmp nat_cmp) (names_in cover)

-- the table of a cover, which drives a signal: its inputs are the cover's names, sorted; its rows
-- are the cubes in the cover's order
unfoldable pub cover_table : List ℕ → NamedCover → Table
cover_table name cover = record {
  inputs = sorted_names cover;
  output = name;
  rows = map characters_of (map (row_over (sorted_names cover)) cover);
  phase = true;
}
