-- Rows of covers as lists of optional bits, and their values at a point. Source: Brayton, Hachtel,
-- McMullen, Sangiovanni-Vincentelli, "Logic Minimization Algorithms for VLSI Synthesis" (cubes and
-- covers); De Micheli, "Synthesis and Optimization of Digital Circuits", chapter 7. A row has one
-- column for each input: some bit for a literal (true the positive one, false the negative), none
-- for a dash. A point has one bit for each input; it is of a width if it has that many.
use Rattle.std.specs.Prelude.{◌≡◌, ℕ, Bool, true, false, not, ◌&&◌, ◌||◌, Option, Some, None, List, [], ◌∷◌, length}

-- a column agrees with a bit if it is a dash or that very bit
abbrev pub agrees : Option Bool → Bool → Bool
agrees None bit = true
agrees (Some true) bit = bit
agrees (Some false) bit = not bit

-- a row matches a point if each of its literals agrees with the point's bit; row and point are of
-- one width (columns past the end of the shorter one do not count)
unfoldable pub matches : List (Option Bool) → List Bool → Bool
matches [] point = true
matches (place ∷ places) [] = true
matches (place ∷ places) (bit ∷ bits) = agrees place bit && matches places bits

-- whether some row matches
unfoldable pub some_matches : List (List (Option Bool)) → List Bool → Bool
some_matches [] point = false
some_matches (row ∷ rows) point = matches row point || some_matches rows point

-- a phase, complemented unless a row matched
abbrev pub phase_value : Bool → Bool → Bool
phase_value true matched = matched
phase_value false matched = not matched

-- the value of rows at a point, by phase
unfoldable pub value_by_phase : Bool → List (List (Option Bool)) → List Bool → Bool
value_by_phase phase rows point = phase_value phase (some_matches rows point)

-- the points of a width
abbrev pub IsPoint : ℕ → List Bool → Type 0
IsPoint width point = length point ≡ width

-- each row has one column for each input
unfoldable pub HasWidth : ℕ → List (List (Option Bool)) → Type 0
HasWidth width [] = Unit {0}
HasWidth width (row ∷ rows) = (length row ≡ width) × HasWidth width rows
