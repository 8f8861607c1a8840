-- Rows literal by literal, and sums of rows one by one.
use Rattle.std.proofs.Common.{◌≡◌, ℕ, zero, suc, ◌+◌, ◌<◌, Bool, true, false, ◌&&◌, ◌||◌, Option, None, List, [], ◌∷◌, length, take, get_or, map, refl, sym, ap, ◌∙◌, subst, arith}
use Rattle.std.proofs.Math.Bool.{and_assoc, and-true, or_assoc, or-false}
use Rattle.std.proofs.lemmas.List.{get_or-map}
use Rattle.circuit_model.specs.Values.{literal_of}
use Rattle.circuit_model.specs.declared.circuit.Tri.{Tri}
use Rattle.sis_base.specs.Rows.{agrees, matches, some_matches, HasWidth}

matches-suc : (row : List (Option Bool)) (bits : List Bool) (k : ℕ) (d : Bool) → k < length row
    → k < length bits
    → matches (take (suc k) row) bits ≡ (matches (take k row) bits && agrees (get_or row k None)
    (get_or bits k d))
unfolding matches
matches-suc [] bits k d low fits = absurd (omega arith)
matches-suc (place ∷ places) [] k d low fits = absurd (omega arith)
matches-suc (place ∷ places) (bit ∷ bits) zero d low fits = and-true (agrees place bit)
matches-suc (place ∷ places) (bit ∷ bits) (suc k) d low fits =
    ap (λ (b : Bool). agrees place bit && b) (matches-suc places bits k d (omega arith) (omega
    arith))
    ∙ sym (and_assoc (agrees place bit) (matches (take k places) bits) (agrees (get_or places k
    None) (get_or bits k d)))

pub matches-more : (row : List (Option Bool)) (bits : List Bool) (k : ℕ) (d : Bool)
    → k < length row → k < length bits
    → matches (take (k + 1) row) bits ≡ (matches (take k row) bits && agrees (get_or row k None)
    (get_or bits k d))
matches-more row bits k d low fits =
    let e : suc k ≡ k + 1 = omega arith in
    subst (λ (n : ℕ). matches (take n row) bits ≡ (matches (take k row) bits && agrees (get_or row
    k None) (get_or bits k d))) e
    (matches-suc row bits k d low fits)

pub matches-none : (row : List (Option Bool)) (bits : List Bool) → matches (take 0 row) bits ≡ true
unfolding matches
matches-none row bits = refl

some_matches-suc : (rows : List (List (Option Bool))) (bits : List Bool) (k : ℕ) → k < length rows
    → some_matches (take (suc k) rows) bits ≡ (some_matches (take k rows) bits || matches (get_or
    rows k []) bits)
unfolding some_matches
some_matches-suc [] bits k low = absurd (omega arith)
some_matches-suc (row ∷ rows) bits zero low = or-false (matches row bits)
some_matches-suc (row ∷ rows) bits (suc k) low =
    ap (λ (b : Bool). matches row bits || b) (some_matches-suc rows bits k (omega arith))
    ∙ sym (or_assoc (matches row bits) (some_matches (take k rows) bits) (matches (get_or rows k
    []) bits))

pub some_matches-more : (rows : List (List (Option Bool))) (bits : List Bool) (k : ℕ)
    → k < length rows
    → some_matches (take (k + 1) rows) bits ≡ (some_matches (take k rows) bits || matches (get_or
    rows k []) bits)
some_matches-more rows bits k low =
    let e : suc k ≡ k + 1 = omega arith in
    subst (λ (n : ℕ). some_matches (take n rows) bits ≡ (some_matches (take k rows) bits || matches
    (get_or rows k []) bits)) e
    (some_matches-suc rows bits k low)

pub some_matches-none : (rows : List (List (Option Bool))) (bits : List Bool)
    → some_matches (take 0 rows) bits ≡ false
unfolding some_matches
some_matches-none rows bits = refl

pub take-all : {A : Type 0} (xs : List A) (n : ℕ) → n ≡ length xs → take n xs ≡ xs
take-all {A = A} [] zero e = refl
take-all {A = A} [] (suc n) e = refl
take-all {A = A} (x ∷ xs) zero e = absurd (omega arith)
take-all {A = A} (x ∷ xs) (suc n) e = ap (λ (rest : List A). x ∷ rest) (take-all xs n (omega arith))

pub width-at : (width : ℕ) (rows : List (List (Option Bool))) (k : ℕ) → HasWidth width rows
    → k < length rows → length (get_or rows k []) ≡ width
unfolding HasWidth
width-at width [] k wide low = absurd (omega arith)
width-at width (row ∷ rows) zero wide low = wide.0
width-at width (row ∷ rows) (suc k) wide low = width-at width rows k wide.1 (omega arith)

pub read_literal : (row : List Tri) (k : ℕ) (d : Tri) → k < length row
    → get_or (map literal_of row) k None ≡ literal_of (get_or row k d)
read_literal row k d low = get_or-map literal_of row k d None low

pub read_row : (rows : List (List Tri)) (k : ℕ) (d : List Tri) → k < length rows
    → get_or (map (map literal_of) rows) k [] ≡ map literal_of (get_or rows k d)
read_row rows k d low = get_or-map (map literal_of) rows k d [] low
