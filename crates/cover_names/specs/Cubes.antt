-- Rows over inputs and cubes of literals by name, each from the other, and the values of cubes and
-- covers. Source: De Micheli, "Synthesis and Optimization of Digital Circuits", chapters 7 and 8.
use Rattle.std.specs.Prelude.{ℕ, Bool, Option, Some, None, List, [], ◌∷◌, map, find, flat_map, bytes_eq, option_map}
use Rattle.std.specs.List.{list_all, list_any}
use Rattle.sis_base.specs.Rows.{agrees}
use Rattle.circuit_model.specs.Names.{has}
use Rattle.cover_names.specs.Literals.{Cube, NamedCover, cube_cmp, sorted, sorted_cube}
use Rattle.cover_names.specs.declared.literal.Literal.{Literal}

-- the literals of a row over names, in the order of the names
unfoldable pub cube_over : List (List ℕ) → List (Option Bool) → Cube
cube_over [] row = []
cube_over (name ∷ names) [] = []
cube_over (name ∷ names) (None ∷ row) = cube_over names row
cube_over (name ∷ names) (Some bit ∷ row) = record { name = name; bit = bit } ∷ cube_over names row

-- the bit of a cube's first literal of a name, if it has one
abbrev pub literal_of : Cube → List ℕ → Option Bool
literal_of cube name = option_map (λ (literal : Literal). literal.bit) (find (λ (literal : Literal). bytes_eq literal.name name) cube)

-- the row of a cube over names
abbrev pub row_over : List (List ℕ) → Cube → List (Option Bool)
row_over names cube = map (literal_of cube) names

-- the sorted cover of rows over names: each cube sorted, and the cubes sorted, each once
abbrev pub cover_over : List (List ℕ) → List (List (Option Bool)) → NamedCover
cover_over names rows = sorted cube_cmp (map (λ row. sorted_cube (cube_over names row)) rows)

-- the names of a cover's literals
abbrev pub names_in : NamedCover → List (List ℕ)
names_in cover = flat_map (λ (cube : Cube). map (λ (literal : Literal). literal.name) cube) cover

-- whether all literals of a cover are of the given names
abbrev pub is_over : List (List ℕ) → NamedCover → Bool
is_over names cover = list_all (λ (cube : Cube). list_all (λ (literal : Literal). has names literal.name) cube) cover

-- the values of a cube and of a cover, if signals have values
abbrev pub cube_value : (List ℕ → Bool) → Cube → Bool
cube_value value cube = list_all (λ (literal : Literal). agrees (Some literal.bit) (value literal.name)) cube

abbrev pub cover_value : (List ℕ → Bool) → NamedCover → Bool
cover_value value cover = list_any (cube_value value) cover
