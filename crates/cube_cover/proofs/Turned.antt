-- A row that is turned into another, column by column.
use Rattle.std.proofs.Common.{◌≡◌, ℕ, ◌+◌, ◌<◌, ◌≤◌, zero, suc, Bool, Option, Some, None, List, [], ◌∷◌, length, get_or, set, map, replicate, refl, sym, ap, ◌∙◌, arith, inl, inr, ◌⊎◌}
use Rattle.std.proofs.lemmas.Bool.{cases_eq}
use Rattle.std.proofs.lemmas.List.{length-set, length-map, length-replicate, get_or-map, get_or-set_same, get_or-set_other, get_or_past, ext_get_or}
use Rattle.cube_cover.specs.Covers.{product_of, without_of, shared_of}
use Rattle.cube_cover.specs.Literals.{literal_product, literal_without, literal_shared}

-- the columns before one are done, those from it on are as they were
pub record IsTurned (old new made : List (Option Bool)) (column : ℕ) : Type 0 where
  pub size : length made ≡ length old
  pub done : (i : ℕ) → i < column → get_or made i None ≡ get_or new i None
  pub rest : (i : ℕ) → column ≤ i → get_or made i None ≡ get_or old i None

pub turned_first : (old new made : List (Option Bool)) → made ≡ old → IsTurned old new made 0
turned_first old new made e = record {
  size = ap length e;
  done = λ i lt. absurd (omega arith);
  rest = λ i le. ap (λ (row : List (Option Bool)). get_or row i None) e;
}

pub turned_more : (old new made next : List (Option Bool)) (column : ℕ) (literal : Option Bool) → IsTurned old new made column → column < length old → literal ≡ get_or new column None
    → next ≡ set made column literal → IsTurned old new next (column + 1)
turned_more old new made next column literal h lt e s = record {
  size = ap length s ∙ length-set made column literal ∙ h.size;
  done = λ i le. each i le (cases_eq i column);
  rest = λ i le. rw (s, get_or-set_other made column i literal None (λ d. absurd (omega arith))) (h.rest i (omega arith));
}
  where
    each : (i : ℕ) → i < column + 1 → (i ≡ column) ⊎ (i ≡ column → ⊥) → get_or next i None ≡ get_or new i None
    each i le (inl d) = rw (s, d, get_or-set_same made column literal None (omega (arith, h.size))) e
    each i le (inr ne) = rw (s, get_or-set_other made column i literal None ne) (h.done i (omega arith))

-- a column is given what an operation makes of the literals of two rows
pub turned_by : (f : Option Bool → Option Bool → Option Bool) (a b old new made next : List (Option Bool)) (column : ℕ) (l m r : Option Bool) → IsTurned old new made column → column < length old
    → l ≡ get_or a column None → m ≡ get_or b column None → r ≡ f l m → f (get_or a column None) (get_or b column None) ≡ get_or new column None → next ≡ set made column r → IsTurned old new next (column + 1)
turned_by f a b old new made next column l m r h lt el em er e s =
    turned_more old new made next column r h lt (er ∙ ap (λ x. f x m) el ∙ ap (f (get_or a column None)) em ∙ e) s

-- a column stays
pub turned_skip : (old new made : List (Option Bool)) (column : ℕ) → IsTurned old new made column → get_or old column None ≡ get_or new column None → IsTurned old new made (column + 1)
turned_skip old new made column h e = record { size = h.size; done = λ i le. each i le (cases_eq i column); rest = λ i le. h.rest i (omega arith) }
  where
    each : (i : ℕ) → i < column + 1 → (i ≡ column) ⊎ (i ≡ column → ⊥) → get_or made i None ≡ get_or new i None
    each i le (inl d) = rw d (h.rest column (omega arith) ∙ e)
    each i le (inr ne) = h.done i (omega arith)

pub turned_last : (old new made : List (Option Bool)) (column : ℕ) → IsTurned old new made column → length new ≡ length old → length old ≤ column → made ≡ new
turned_last old new made column h e le = ext_get_or None made new (h.size ∙ sym e) (λ i lt. h.done i (omega (arith, h.size)))

-- the lengths and columns of what rows are turned into
pub length-without_of : (row mask : List (Option Bool)) → length row ≡ length mask → length (without_of row mask) ≡ length row
unfolding without_of
length-without_of [] mask e = refl
length-without_of (l ∷ ls) [] e = absurd (omega arith)
length-without_of (l ∷ ls) (m ∷ ms) e = ap suc (length-without_of ls ms (omega arith))

pub without_at : (row mask : List (Option Bool)) (i : ℕ) → length row ≡ length mask → i < length row → literal_without (get_or row i None) (get_or mask i None) ≡ get_or (without_of row mask) i None
unfolding without_of
without_at [] mask i e lt = absurd (omega arith)
without_at (l ∷ ls) [] i e lt = absurd (omega arith)
without_at (l ∷ ls) (m ∷ ms) zero e lt = refl
without_at (l ∷ ls) (m ∷ ms) (suc i) e lt = without_at ls ms i (omega arith) (omega arith)

pub length-shared_of : (row other : List (Option Bool)) → length row ≡ length other → length (shared_of row other) ≡ length row
unfolding shared_of
length-shared_of [] other e = refl
length-shared_of (l ∷ ls) [] e = absurd (omega arith)
length-shared_of (l ∷ ls) (m ∷ ms) e = ap suc (length-shared_of ls ms (omega arith))

pub shared_at : (row other : List (Option Bool)) (i : ℕ) → length row ≡ length other → i < length row → literal_shared (get_or row i None) (get_or other i None) ≡ get_or (shared_of row other) i None
unfolding shared_of
shared_at [] other i e lt = absurd (omega arith)
shared_at (l ∷ ls) [] i e lt = absurd (omega arith)
shared_at (l ∷ ls) (m ∷ ms) zero e lt = refl
shared_at (l ∷ ls) (m ∷ ms) (suc i) e lt = shared_at ls ms i (omega arith) (omega arith)

pub product_at : (row other : List (Option Bool)) (i : ℕ) → length row ≡ length other → i < length row → literal_product (get_or row i None) (get_or other i None) ≡ get_or (product_of row other) i None
unfolding product_of
product_at [] other i e lt = absurd (omega arith)
product_at (l ∷ ls) [] i e lt = absurd (omega arith)
product_at (None ∷ ls) (m ∷ ms) zero e lt = refl
product_at (None ∷ ls) (m ∷ ms) (suc i) e lt = product_at ls ms i (omega arith) (omega arith)
product_at (Some l ∷ ls) (m ∷ ms) zero e lt = refl
product_at (Some l ∷ ls) (m ∷ ms) (suc i) e lt = product_at ls ms i (omega arith) (omega arith)

-- ---- a row that keeps some places
kept_at : (row : List (Option Bool)) (places : List ℕ) (i : ℕ) → i < length places → get_or row (get_or places i 0) None ≡ get_or (map (λ place. get_or row place None) places) i None
kept_at row places i lt = sym (get_or-map (λ place. get_or row place None) places i 0 None lt)

dash_at : (k i : ℕ) → get_or (replicate {A = Option Bool} k None) i None ≡ None
dash_at zero i = refl
dash_at (suc k) zero = refl
dash_at (suc k) (suc i) = dash_at k i

abbrev pub IsKept : List (Option Bool) → List ℕ → List (Option Bool) → ℕ → Type 0
IsKept row places made column = IsTurned (replicate (length places) None) (map (λ place. get_or row place None) places) made column

pub kept_more : (row : List (Option Bool)) (places : List ℕ) (made next : List (Option Bool)) (column : ℕ) (literal : Option Bool) → IsKept row places made column → column < length places
    → literal ≡ get_or row (get_or places column 0) None → next ≡ set made column literal → IsKept row places next (column + 1)
kept_more row places made next column literal h lt e s =
    turned_more _ _ made next column literal h (omega (arith, lt, long)) (e ∙ kept_at row places column lt) s
  where
    long : length (replicate {A = Option Bool} (length places) None) ≡ length places
    long = length-replicate (length places) None

pub kept_skip : (row : List (Option Bool)) (places : List ℕ) (made next : List (Option Bool)) (column : ℕ) → IsKept row places made column → column < length places
    → length row ≤ get_or places column 0 → next ≡ made → IsKept row places next (column + 1)
kept_skip row places made next column h lt le s =
    rw s (turned_skip _ _ made column h (dash_at (length places) column ∙ sym (get_or_past row (get_or places column 0) None le) ∙ kept_at row places column lt))

pub kept_last : (row : List (Option Bool)) (places : List ℕ) (made : List (Option Bool)) (column : ℕ) → IsKept row places made column → length places ≤ column → made ≡ map (λ place. get_or row place None) places
kept_last row places made column h le =
    turned_last _ _ made column h (length-map places (λ place. get_or row place None) ∙ sym long) (omega (arith, le, long))
  where
    long : length (replicate {A = Option Bool} (length places) None) ≡ length places
    long = length-replicate (length places) None
