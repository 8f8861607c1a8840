-- What the body computes from a column on: the list of the rows that are left, and how the lists of
-- two halves are joined. No public clause needs these definitions. Source: Brayton et al., "Logic
-- Minimization Algorithms for VLSI Synthesis" (recursion on cofactors).
use Rattle.std.specs.Prelude.{◌≡◌, ℕ, Bool, true, false, Option, Some, None, List, [], ◌∷◌, ◌++◌, map, drop, replicate, slice_set, ◌⊎◌}
use Rattle.sis_base.specs.Rows.{value_by_phase}
use Rattle.cover_ops.specs.Shannon.{shannon}

-- one row of dashes for the constant 1, no row for 0
abbrev pub constant_list : ℕ → Bool → List (List (Option Bool))
constant_list width true = replicate width None ∷ []
constant_list width false = []

-- the list, from a column on, of the rows that are left there, with dashes in the columns before
unfoldable pub list_from : ℕ → ℕ → Bool → List (List (Option Bool)) → List (List (Option Bool))
list_from place left phase rows = map (λ row. replicate place None ++ row) (shannon left (λ point. value_by_phase phase (map (drop place) rows) point))

-- rows with a literal set in a column
abbrev pub marked_rows : ℕ → Bool → List (List (Option Bool)) → List (List (Option Bool))
marked_rows place bit rows = map (λ row. slice_set row place (Some bit)) rows

-- the list of equal halves is that of either; otherwise the rows of the low half with literal 0
-- come before those of the high half with literal 1
abbrev pub IsJoined : ℕ → List (List (Option Bool)) → List (List (Option Bool)) → List (List (Option Bool)) → Type 0
IsJoined place low high rows = ((low ≡ high) × (rows ≡ low)) ⊎ ((low ≡ high → ⊥) × (rows ≡ marked_rows place false low ++ marked_rows place true high))
