-- Rows selected by their indices.
use Rattle.std.proofs.Common.{◌≡◌, ℕ, ◌<◌, ◌≤◌, zero, suc, Bool, Option, List, [], ◌∷◌, length, get_or, map, refl, sym, ap, ◌∙◌, arith}
use Rattle.std.proofs.lemmas.List.{get_or-map, get_or_past, length-map}
use Rattle.sis_base.specs.Rows.{HasWidth}
use Rattle.cube_cover.specs.Covers.{picked_rows}
use Rattle.cube_cover.proofs.Points.{width_read}

-- the row of a number that was read
pub pick_is : {X : Type 0} (f : X → List (Option Bool)) (rows : List X) (i : ℕ) (row : X) → i < length rows → row ≡ get_or rows i row → get_or (map f rows) i [] ≡ f row
pick_is f rows i row lt e = get_or-map f rows i row [] lt ∙ ap f (sym e)

-- a number past the rows
pub pick_past : {X : Type 0} (f : X → List (Option Bool)) (rows : List X) (i : ℕ) → length rows ≤ i → get_or (map f rows) i [] ≡ []
pick_past f rows i h = get_or_past (map f rows) i [] (rw (length-map rows f) h)

-- a number that was read
number_read : (numbers : List ℕ) (i d : ℕ) → i < length numbers → get_or numbers i 0 ≡ get_or numbers i d
number_read [] i d lt = absurd (omega arith)
number_read (n ∷ ns) zero d lt = refl
number_read (n ∷ ns) (suc i) d lt = number_read ns i d (omega arith)

pub number_is : (numbers : List ℕ) (i : ℕ) → i < length numbers → get_or numbers i 0 ≡ get_or numbers i (get_or numbers i 0)
number_is numbers i lt = number_read numbers i (get_or numbers i 0) lt

-- the width of the row of a number that was read
pub width_picked : (w : ℕ) (rows : List (List (Option Bool))) (numbers : List ℕ) (i : ℕ) → HasWidth w (picked_rows rows numbers) → i < length numbers → length (get_or rows (get_or numbers i 0) []) ≡ w
width_picked w rows numbers i h lt = width_read (λ (n : ℕ). get_or rows n []) w numbers i (get_or numbers i 0) h lt (number_is numbers i lt)
