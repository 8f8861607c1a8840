-- Cubes whose literals are among those of a row. Source: De Micheli, "Synthesis and Optimization of
-- Digital Circuits", chapter 8 (algebraic division): a row that is the product of a cube and a cube
-- of the divisor has all literals of the latter. No public clause needs these definitions.
use Rattle.std.specs.Prelude.{Bool, Option, List}
use Rattle.std.specs.List.{list_all, list_any}
use Rattle.cube_cover.specs.Literals.{row_contains}

-- whether one of the rows has all literals of a cube
abbrev pub some_row_has : List (Option Bool) → List (List (Option Bool)) → Bool
some_row_has cube rows = list_any (row_contains cube) rows

-- whether for each cube one of the rows has all its literals
abbrev pub rows_have_each : List (List (Option Bool)) → List (List (Option Bool)) → Bool
rows_have_each cubes rows = list_all (λ cube. some_row_has cube rows) cubes
