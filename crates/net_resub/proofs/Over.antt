-- Whether all literals of a row have one of some names, column by column.
use Rattle.std.proofs.Common.{◌≡◌, ◌<◌, ◌≤◌, ℕ, zero, suc, Bool, true, false, ◌&&◌, ◌||◌, not, Option, Some, None, List, [], ◌∷◌, length, map, drop, refl, sym, ap, ◌∙◌, arith, inl, inr}
use Rattle.std.specs.Prelude.{slice_index_or, is_some}
use Rattle.std.specs.List.{list_all, list_any}
use Rattle.std.proofs.lemmas.Bool.{false≢true, and_parts, or_parts, or_cases}
use Rattle.circuit_model.specs.Names.{has}
use Rattle.cover_names.specs.Cubes.{cube_over, is_over}
use Rattle.net_core.specs.Places.{written_of}
use Rattle.net_core.specs.Tables.{named, places_of, characters_of}
use Rattle.net_core.specs.declared.places.Entry.{Entry}
use Rattle.net_core.proofs.Rows.{places_back}
use Rattle.net_resub.specs.Resubbed.{row_cubes}
use Rattle.net_resub.specs.Listed.{IsNeeded}
use Rattle.net_resub.specs.Pairs.{is_cube_over}

none_over : (names inputs : List (List ℕ)) → is_cube_over names (cube_over inputs []) ≡ true
unfolding cube_over
none_over names [] = refl
none_over names (input ∷ inputs) = refl

-- the rest of a row from a column on
abbrev pub rest_over : List (List ℕ) → List (List ℕ) → List (Option Bool) → ℕ → Bool
rest_over names inputs row i = is_cube_over names (cube_over (drop i inputs) (drop i row))

pub no_more : (names inputs : List (List ℕ)) (row : List (Option Bool)) (i : ℕ) → length inputs ≤ i → rest_over names inputs row i ≡ true
unfolding cube_over
no_more names [] row zero long = refl
no_more names (input ∷ inputs) row zero long = absurd (omega (arith, long))
no_more names [] [] (suc i) long = refl
no_more names [] (item ∷ row) (suc i) long = refl
no_more names (input ∷ inputs) [] (suc i) long = none_over names (drop i inputs)
no_more names (input ∷ inputs) (item ∷ row) (suc i) long = no_more names inputs row i (omega (arith, long))

pub one_more : (names inputs : List (List ℕ)) (row : List (Option Bool)) (i : ℕ) (none : List ℕ) → i < length inputs
    → rest_over names inputs row i ≡ ((not (is_some (slice_index_or row i None)) || has names (slice_index_or inputs i none)) && rest_over names inputs row (suc i))
unfolding cube_over
one_more names [] row i none below = absurd (omega (arith, below))
one_more names (input ∷ inputs) [] zero none below = sym (none_over names inputs)
one_more names (input ∷ inputs) (None ∷ row) zero none below = refl
one_more names (input ∷ inputs) (Some bit ∷ row) zero none below = refl
one_more names (input ∷ inputs) [] (suc i) none below = none_over names (drop i inputs) ∙ sym (none_over names (drop (suc i) inputs))
one_more names (input ∷ inputs) (item ∷ row) (suc i) none below = one_more names inputs row i none (omega (arith, below))

-- the step of a loop over columns, if the result for the column is known
pub told_more : (names inputs : List (List ℕ)) (row : List (Option Bool)) (i : ℕ) (input : List ℕ) (item : Option Bool) (answer : Bool) (next : ℕ) → next ≡ suc i → i < length inputs → input ≡ slice_index_or inputs i input
    → item ≡ slice_index_or row i None → answer ≡ (not (is_some item) || has names input) → rest_over names inputs row i ≡ (answer && rest_over names inputs row next)
told_more names inputs row i input item answer next after below is at told =
    one_more names inputs row i input below
    ∙ (ap (λ (b : Bool). b && rest_over names inputs row (suc i))
    (ap (λ (n : List ℕ). not (is_some (slice_index_or row i None)) || has names n) (sym is)
    ∙ (ap (λ (o : Option Bool). not (is_some o) || has names input) (sym at) ∙ sym told))
    ∙ ap (λ (k : ℕ). answer && rest_over names inputs row k) (sym after))

-- the rest of a list from an index on
all_done : {A : Type 0} (p : A → Bool) (xs : List A) (i : ℕ) → length xs ≤ i → list_all p (drop i xs) ≡ true
all_done p [] zero long = refl
all_done p (x ∷ xs) zero long = absurd (omega (arith, long))
all_done p [] (suc i) long = refl
all_done p (x ∷ xs) (suc i) long = all_done p xs i (omega (arith, long))

all_more : {A : Type 0} (p : A → Bool) (xs : List A) (i : ℕ) (none : A) → i < length xs → list_all p (drop i xs) ≡ (p (slice_index_or xs i none) && list_all p (drop (suc i) xs))
all_more p [] i none below = absurd (omega (arith, below))
all_more p (x ∷ xs) zero none below = refl
all_more p (x ∷ xs) (suc i) none below = all_more p xs i none (omega (arith, below))

-- whether all literals of the rows from an index on have one of some names
abbrev pub rows_over : {R : Type 0} → (R → List (Option Bool)) → List (List ℕ) → List (List ℕ) → List R → ℕ → Bool
rows_over literals names inputs rows i = list_all (λ row. is_cube_over names (cube_over inputs (literals row))) (drop i rows)

pub told_row : {R : Type 0} (literals : R → List (Option Bool)) (names inputs : List (List ℕ)) (rows : List R) (i : ℕ) (row : R) (answer : Bool) (next : ℕ) → next ≡ suc i → i < length rows
    → row ≡ slice_index_or rows i row → answer ≡ is_cube_over names (cube_over inputs (literals row)) → rows_over literals names inputs rows i ≡ (answer && rows_over literals names inputs rows next)
told_row {R} literals names inputs rows i row answer next after below is told =
    all_more p rows i row below
    ∙ (ap (λ (b : Bool). b && rows_over literals names inputs rows (suc i)) (ap p (sym is) ∙ sym told)
    ∙ ap (λ (k : ℕ). answer && rows_over literals names inputs rows k) (sym after))
  where
    p : R → Bool
    p one = is_cube_over names (cube_over inputs (literals one))

pub no_row : {R : Type 0} (literals : R → List (Option Bool)) (names inputs : List (List ℕ)) (rows : List R) (i : ℕ) → length rows ≤ i → rows_over literals names inputs rows i ≡ true
no_row literals names inputs rows i long = all_done (λ row. is_cube_over names (cube_over inputs (literals row))) rows i long

-- of a table's rows, as they are written
pub written_over : {R : Type 0} (literals : R → List (Option Bool)) (names inputs : List (List ℕ)) (rows : List R) (items : List (List (Option Bool))) → map literals rows ≡ items
    → rows_over literals names inputs rows 0 ≡ is_over names (map (λ row. cube_over inputs (places_of row)) (map characters_of items))
written_over {R} literals names inputs rows items same = go rows ∙ ap (λ (is : List (List (Option Bool))). is_over names (map (λ row. cube_over inputs (places_of row)) (map characters_of is))) same
  where
    go : (rs : List R) → list_all (λ row. is_cube_over names (cube_over inputs (literals row))) rs ≡ is_over names (map (λ row. cube_over inputs (places_of row)) (map characters_of (map literals rs)))
    go [] = refl
    go (r ∷ rs) =
        ap (λ (row : List (Option Bool)). is_cube_over names (cube_over inputs row) && list_all (λ row. is_cube_over names (cube_over inputs (literals row))) rs) (sym (places_back (literals r)))
        ∙ ap (λ (b : Bool). is_cube_over names (cube_over inputs (places_of (characters_of (literals r)))) && b) (go rs)

pub entry_over : {R S : Type 0} (literals : R → List (Option Bool)) (names inputs : List (List ℕ)) (rows : List R) (by : Entry S) → inputs ≡ by.table.inputs → map literals rows ≡ by.table.cover.rows
    → rows_over literals names inputs rows 0 ≡ is_over names (row_cubes (written_of by))
unfolding named
entry_over literals names inputs rows by same items =
    written_over literals names inputs rows by.table.cover.rows items
    ∙ ap (λ (is : List (List ℕ)). is_over names (map (λ row. cube_over is (places_of row)) (map characters_of by.table.cover.rows))) same

-- names that include those of all literals of the rows include that of one literal
row_needs : (names inputs : List (List ℕ)) (row : List (Option Bool)) (i : ℕ) (none : List ℕ) → i < length inputs → is_some (slice_index_or row i None) ≡ true → is_cube_over names (cube_over inputs row) ≡ true
    → has names (slice_index_or inputs i none) ≡ true
unfolding cube_over
row_needs names [] row i none below some over = absurd (omega (arith, below))
row_needs names (input ∷ inputs) [] i none below some over = absurd (false≢true some)
row_needs names (input ∷ inputs) (None ∷ row) zero none below some over = absurd (false≢true some)
row_needs names (input ∷ inputs) (Some bit ∷ row) zero none below some over = (and_parts (has names input) (is_cube_over names (cube_over inputs row)) over).0
row_needs names (input ∷ inputs) (None ∷ row) (suc i) none below some over = row_needs names inputs row i none (omega (arith, below)) some over
row_needs names (input ∷ inputs) (Some bit ∷ row) (suc i) none below some over =
    row_needs names inputs row i none (omega (arith, below)) some (and_parts (has names input) (is_cube_over names (cube_over inputs row)) over).1

rows_need : {R : Type 0} (literals : R → List (Option Bool)) (names inputs : List (List ℕ)) (rows : List R) (i : ℕ) (none : List ℕ) → i < length inputs
    → list_any (λ row. is_some (slice_index_or (literals row) i None)) rows ≡ true → rows_over literals names inputs rows 0 ≡ true → has names (slice_index_or inputs i none) ≡ true
rows_need literals names inputs [] i none below some over = absurd (false≢true some)
rows_need {R} literals names inputs (row ∷ rows) i none below some over =
    elim (or_cases (is_some (slice_index_or (literals row) i None)) (list_any (λ (one : R). is_some (slice_index_or (literals one) i None)) rows) some) as (λ _. has names (slice_index_or inputs i none) ≡ true) [
      | inl here ↦ row_needs names inputs (literals row) i none below here both.0
      | inr later ↦ rows_need literals names inputs rows i none below later both.1
    ]
  where
    both : (is_cube_over names (cube_over inputs (literals row)) ≡ true) × (rows_over literals names inputs rows 0 ≡ true)
    both = and_parts (is_cube_over names (cube_over inputs (literals row))) (rows_over literals names inputs rows 0) over

pub entry_needs : {R S : Type 0} (literals : R → List (Option Bool)) (inputs : List (List ℕ)) (rows : List R) (by : Entry S) (i : ℕ) (name : List ℕ) → inputs ≡ by.table.inputs → map literals rows ≡ by.table.cover.rows
    → i < length inputs → name ≡ slice_index_or inputs i name → list_any (λ row. is_some (slice_index_or (literals row) i None)) rows ≡ true → IsNeeded (row_cubes (written_of by)) name
entry_needs literals inputs rows by i name same items below is some names over =
    ap (has names) is ∙ rows_need literals names inputs rows i name below some (entry_over literals names inputs rows by same items ∙ over)

-- a row with no literal in any column of the inputs is over any names
row_none : (names inputs : List (List ℕ)) (row : List (Option Bool)) → ((i : ℕ) → i < length inputs → is_some (slice_index_or row i None) ≡ false) → is_cube_over names (cube_over inputs row) ≡ true
unfolding cube_over
row_none names [] row empty = refl
row_none names (input ∷ inputs) [] empty = refl
row_none names (input ∷ inputs) (None ∷ row) empty = row_none names inputs row (λ i below. empty (suc i) (omega (arith, below)))
row_none names (input ∷ inputs) (Some bit ∷ row) empty = absurd (false≢true (sym (empty 0 (omega arith))))

rows_none : {R : Type 0} (literals : R → List (Option Bool)) (names inputs : List (List ℕ)) (rows : List R)
    → ((i : ℕ) → i < length inputs → list_any (λ row. is_some (slice_index_or (literals row) i None)) rows ≡ false) → rows_over literals names inputs rows 0 ≡ true
rows_none literals names inputs [] empty = refl
rows_none {R} literals names inputs (row ∷ rows) empty =
    ap (λ (b : Bool). b && rows_over literals names inputs rows 0) (row_none names inputs (literals row) (λ i below. (both i below).0))
    ∙ rows_none literals names inputs rows (λ i below. (both i below).1)
  where
    both : (i : ℕ) → i < length inputs → (is_some (slice_index_or (literals row) i None) ≡ false) × (list_any (λ (one : R). is_some (slice_index_or (literals one) i None)) rows ≡ false)
    both i below = or_parts (is_some (slice_index_or (literals row) i None)) (list_any (λ (one : R). is_some (slice_index_or (literals one) i None)) rows) (empty i below)

-- if no row has a literal in any column of the inputs, the rows are over no names
pub entry_none : {R S : Type 0} (literals : R → List (Option Bool)) (inputs : List (List ℕ)) (rows : List R) (by : Entry S) → inputs ≡ by.table.inputs → map literals rows ≡ by.table.cover.rows
    → ((i : ℕ) → i < length inputs → list_any (λ row. is_some (slice_index_or (literals row) i None)) rows ≡ false) → is_over [] (row_cubes (written_of by)) ≡ true
entry_none literals inputs rows by same items empty = sym (entry_over literals [] inputs rows by same items) ∙ rows_none literals [] inputs rows empty
