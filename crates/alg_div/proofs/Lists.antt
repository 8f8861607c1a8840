-- Membership in lists of rows, and first numbers.
use Rattle.std.proofs.Common.{◌≡◌, ℕ, ◌+◌, ◌<◌, ◌≤◌, zero, suc, Bool, true, false, if◌then◌else◌, Option, Some, None, List, [], ◌∷◌, ◌++◌, length, get_or, take, drop, map, refl, sym, ap, ◌∙◌, subst, arith, inl, inr, ◌⊎◌, is_some, true≢false, take_all, append_assoc, eqb, eqb-true}
use Rattle.std.proofs.lemmas.Slice.Eq.{slice_eq-Decides}
use Rattle.std.specs.Bool.{beq}
use Rattle.std.specs.Option.{option_eq}
use Rattle.std.specs.List.{position_from}
use Rattle.alg_div.specs.Cubes.{Has, row_eq}
use Rattle.alg_div.specs.Steps.{or_last}

pub bool_cases : (b : Bool) → (b ≡ true) ⊎ (b ≡ false)
bool_cases true = inl refl
bool_cases false = inr refl

pub Has-left : {X : Type 0} (x : X) (xs ys : List X) → Has x xs → Has x (xs ++ ys)
Has-left x [] ys h = absurd h
Has-left x (y ∷ xs) ys h = elim h as (λ _. Has x ((y ∷ xs) ++ ys)) [ inl e ↦ inl e | inr m ↦ inr (Has-left x xs ys m) ]

pub Has-right : {X : Type 0} (x : X) (xs ys : List X) → Has x ys → Has x (xs ++ ys)
Has-right x [] ys h = h
Has-right x (y ∷ xs) ys h = inr (Has-right x xs ys h)

pub Has-append : {X : Type 0} (x : X) (xs ys : List X) → Has x (xs ++ ys) → Has x xs ⊎ Has x ys
Has-append x [] ys h = inr h
Has-append x (y ∷ xs) ys h =
    elim h as (λ _. Has x (y ∷ xs) ⊎ Has x ys) [ inl e ↦ inl (inl e) | inr m ↦ (elim (Has-append x xs ys m) as (λ _. Has x (y ∷ xs) ⊎ Has x ys) [ inl a ↦ inl (inr a) | inr b ↦ inr b ]) ]

pub Has-map : {X Z : Type 0} (f : X → Z) (x : X) (xs : List X) → Has x xs → Has (f x) (map f xs)
Has-map f x [] h = h
Has-map f x (y ∷ xs) h = elim h as (λ _. Has (f x) (map f (y ∷ xs))) [ inl e ↦ inl (ap f e) | inr m ↦ inr (Has-map f x xs m) ]

pub Has-at : {X : Type 0} (xs : List X) (i : ℕ) (d : X) → i < length xs → Has (get_or xs i d) xs
Has-at [] i d h = absurd (omega arith)
Has-at (x ∷ xs) zero d h = inl refl
Has-at (x ∷ xs) (suc i) d h = inr (Has-at xs i d (omega arith))

literal_decides : (a b : Option Bool) → (option_eq beq a b ≡ true → a ≡ b) × (a ≡ b → option_eq beq a b ≡ true)
literal_decides None None = (λ _. refl, λ _. refl)
literal_decides None (Some b) = (λ e. cc, λ e. cc)
literal_decides (Some a) None = (λ e. cc, λ e. cc)
literal_decides (Some true) (Some true) = (λ _. refl, λ _. refl)
literal_decides (Some true) (Some false) = (λ e. cc, λ e. cc)
literal_decides (Some false) (Some true) = (λ e. cc, λ e. cc)
literal_decides (Some false) (Some false) = (λ _. refl, λ _. refl)

pub same_from_eq : (x y : List (Option Bool)) → row_eq x y ≡ true → x ≡ y
same_from_eq x y = (slice_eq-Decides literal_decides x y (row_eq x y) refl).0

pub eq_from_same : (x y : List (Option Bool)) → x ≡ y → row_eq x y ≡ true
eq_from_same x y = (slice_eq-Decides literal_decides x y (row_eq x y) refl).1

-- first numbers
pub position-here : (n i : ℕ) (row : List (Option Bool)) (rows : List (List (Option Bool))) → position_from (row_eq row) n rows ≡ Some i → Has row rows
position-here n i row [] h = cc
position-here n i row (first ∷ rows) h = cases (row_eq row first) refl h (position-here (n + 1) i row rows)
  where
    cases : (t : Bool) → row_eq row first ≡ t → (if t then Some n else position_from (row_eq row) (n + 1) rows) ≡ Some i → (position_from (row_eq row) (n + 1) rows ≡ Some i → Has row rows) → Has row (first ∷ rows)
    cases true e k next = inl (same_from_eq row first e)
    cases false e k next = inr (next k)

pub position-number : (n i : ℕ) (row : List (Option Bool)) (rows : List (List (Option Bool))) → position_from (row_eq row) n rows ≡ Some i → (n ≤ i) × (i < n + length rows)
position-number n i row [] h = cc
position-number n i row (first ∷ rows) h = cases (row_eq row first) h (position-number (n + 1) i row rows)
  where
    cases : (t : Bool) → (if t then Some n else position_from (row_eq row) (n + 1) rows) ≡ Some i → (position_from (row_eq row) (n + 1) rows ≡ Some i → (n + 1 ≤ i) × (i < n + 1 + length rows)) → (n ≤ i) × (i < n + length (first ∷ rows))
    cases true k next = let e : n ≡ i = cc in (omega arith, omega arith)
    cases false k next = let p = next k in (omega (arith, p.0), omega (arith, p.1))

-- the number is that of an equal row
pub position-same : (n i : ℕ) (row : List (Option Bool)) (rows : List (List (Option Bool))) → position_from (row_eq row) n rows ≡ Some (n + i) → get_or rows i [] ≡ row
position-same n i row [] h = cc
position-same n zero row (first ∷ rows) h = cases (row_eq row first) refl h (position-number (n + 1) (n + 0) row rows)
  where
    cases : (t : Bool) → row_eq row first ≡ t → (if t then Some n else position_from (row_eq row) (n + 1) rows) ≡ Some (n + 0) → (position_from (row_eq row) (n + 1) rows ≡ Some (n + 0) → (n + 1 ≤ n + 0) × (n + 0 < n + 1 + length rows)) → first ≡ row
    cases true e k next = sym (same_from_eq row first e)
    cases false e k next = absurd (omega (arith, (next k).0))
position-same n (suc i) row (first ∷ rows) h = cases (row_eq row first) h (position-same (n + 1) i row rows)
  where
    cases : (t : Bool) → (if t then Some n else position_from (row_eq row) (n + 1) rows) ≡ Some (n + suc i) → (position_from (row_eq row) (n + 1) rows ≡ Some (n + 1 + i) → get_or rows i [] ≡ row) → get_or rows i [] ≡ row
    cases true k next = let e : n ≡ n + suc i = cc in absurd (omega arith)
    cases false k next = let e : n + suc i ≡ n + 1 + i = omega arith in next (k ∙ ap (λ (m : ℕ). Some m) e)

-- a row of the list has a number
pub position-some : (n : ℕ) (row : List (Option Bool)) (rows : List (List (Option Bool))) → Has row rows → (i : ℕ) × (position_from (row_eq row) n rows ≡ Some i)
position-some n row [] h = absurd h
position-some n row (first ∷ rows) h = cases (row_eq row first) refl h (position-some (n + 1) row rows)
  where
    cases : (t : Bool) → row_eq row first ≡ t → Has row (first ∷ rows) → (Has row rows → (i : ℕ) × (position_from (row_eq row) (n + 1) rows ≡ Some i)) → (i : ℕ) × ((if t then Some n else position_from (row_eq row) (n + 1) rows) ≡ Some i)
    cases true e k next = (n, refl)
    cases false e k next = elim k as (λ _. (i : ℕ) × (position_from (row_eq row) (n + 1) rows ≡ Some i)) [ inl same ↦ absurd (true≢false (sym (eq_from_same row first same) ∙ e)) | inr m ↦ next m ]

-- the number in a list with one more row
pub position-push : (n : ℕ) (row : List (Option Bool)) (rows : List (List (Option Bool))) (last : List (Option Bool))
    → position_from (row_eq row) n (rows ++ last ∷ []) ≡ or_last (position_from (row_eq row) n rows) (row_eq row last) (n + length rows)
position-push n row [] last = cases (row_eq row last)
  where
    cases : (t : Bool) → (if t then Some n else None) ≡ (if t then Some (n + 0) else None)
    cases true = let e : n ≡ n + 0 = omega arith in ap (λ (m : ℕ). Some m) e
    cases false = refl
position-push n row (first ∷ rows) last = cases (row_eq row first) (position-push (n + 1) row rows last)
  where
    cases : (t : Bool) → position_from (row_eq row) (n + 1) (rows ++ last ∷ []) ≡ or_last (position_from (row_eq row) (n + 1) rows) (row_eq row last) (n + 1 + length rows)
        → (if t then Some n else position_from (row_eq row) (n + 1) (rows ++ last ∷ [])) ≡ or_last (if t then Some n else position_from (row_eq row) (n + 1) rows) (row_eq row last) (n + length (first ∷ rows))
    cases true rest = refl
    cases false rest = let e : n + 1 + length rows ≡ n + length (first ∷ rows) = omega arith in rest ∙ ap (λ (m : ℕ). or_last (position_from (row_eq row) (n + 1) rows) (row_eq row last) m) e

-- the first number, where the first row is equal, and where it is not
pub position-first : (n : ℕ) (row first : List (Option Bool)) (rows rest : List (List (Option Bool))) → rows ≡ first ∷ rest → row ≡ first → Some n ≡ position_from (row_eq row) n rows
position-first n row first rows rest e same =
    sym (ap (λ (x : List (List (Option Bool))). position_from (row_eq row) n x) e ∙ ap (λ (t : Bool). if t then Some n else position_from (row_eq row) (n + 1) rest) (eq_from_same row first same))

pub position-next : (n : ℕ) (row first : List (Option Bool)) (rows rest : List (List (Option Bool))) → rows ≡ first ∷ rest → (row ≡ first → ⊥) → position_from (row_eq row) (n + 1) rest ≡ position_from (row_eq row) n rows
position-next n row first rows rest e differ =
    sym (ap (λ (x : List (List (Option Bool))). position_from (row_eq row) n x) e
    ∙ ap (λ (t : Bool). if t then Some n else position_from (row_eq row) (n + 1) rest)
    (elim (bool_cases (row_eq row first)) as (λ _. row_eq row first ≡ false) [ inl t ↦ absurd (differ (same_from_eq row first t)) | inr f ↦ f ]))

-- the next element of a list that is read in turn
pub map-drop : {X Z : Type 0} (f : X → Z) (xs : List X) (i : ℕ) (x : X) → i < length xs → x ≡ get_or xs i x → map f (drop i xs) ≡ f x ∷ map f (drop (i + 1) xs)
map-drop f xs i x h e = let n : suc i ≡ i + 1 = omega arith in drop-suc f xs i x h e ∙ ap (λ (k : ℕ). f x ∷ map f (drop k xs)) n
  where
    drop-suc : {X Z : Type 0} (f : X → Z) (xs : List X) (i : ℕ) (x : X) → i < length xs → x ≡ get_or xs i x → map f (drop i xs) ≡ f x ∷ map f (drop (suc i) xs)
    drop-suc f [] i x h e = absurd (omega arith)
    drop-suc f (y ∷ ys) zero x h e = ap (λ (z : _). f z ∷ map f ys) (sym e)
    drop-suc f (y ∷ ys) (suc i) x h e = drop-suc f ys i x (omega arith) e

pub map-take : {X Z : Type 0} (f : X → Z) (xs : List X) (i : ℕ) (x : X) → i < length xs → x ≡ get_or xs i x → map f (take (i + 1) xs) ≡ map f (take i xs) ++ f x ∷ []
map-take f xs i x h e = let n : i + 1 ≡ suc i = omega arith in ap (λ (k : ℕ). map f (take k xs)) n ∙ take-suc f xs i x h e
  where
    take-suc : {X Z : Type 0} (f : X → Z) (xs : List X) (i : ℕ) (x : X) → i < length xs → x ≡ get_or xs i x → map f (take (suc i) xs) ≡ map f (take i xs) ++ f x ∷ []
    take-suc f [] i x h e = absurd (omega arith)
    take-suc f (y ∷ ys) zero x h e = ap (λ (z : _). f z ∷ []) (sym e)
    take-suc f (y ∷ ys) (suc i) x h e = ap (λ (l : List _). f y ∷ l) (take-suc f ys i x (omega arith) e)

-- what holds of each element that was read in turn
pub has-more : {X Z : Type 0} (P : Z → Type 0) (f : X → Z) (xs : List X) (i : ℕ) (x : X) → i < length xs → x ≡ get_or xs i x → ((z : Z) → Has z (map f (take i xs)) → P z) → P (f x)
    → (z : Z) → Has z (map f (take (i + 1) xs)) → P z
has-more P f xs i x h e before here z m =
    elim (Has-append z (map f (take i xs)) (f x ∷ []) (subst (λ (l : List _). Has z l) (map-take f xs i x h e) m)) as (λ _. P z) [
      | inl a ↦ before z a
      | inr b ↦ elim b as (λ _. P z) [ inl same ↦ subst P (sym same) here | inr n ↦ absurd n ]
    ]

pub has-all : {X Z : Type 0} (P : Z → Type 0) (f : X → Z) (xs : List X) (i : ℕ) → length xs ≤ i → ((z : Z) → Has z (map f (take i xs)) → P z) → (z : Z) → Has z (map f xs) → P z
has-all P f xs i h before z m = before z (subst (λ (l : List _). Has z (map f l)) (sym (take_all i xs h)) m)

-- an element that was read from a list
pub has-read : {X Z : Type 0} (f : X → Z) (xs : List X) (i : ℕ) (x : X) → i < length xs → x ≡ get_or xs i x → Has (f x) (map f xs)
has-read f [] i x h e = absurd (omega arith)
has-read f (y ∷ ys) zero x h e = inl (ap f e)
has-read f (y ∷ ys) (suc i) x h e = inr (has-read f ys i x (omega arith) e)

pub read-map : {X : Type 0} (f : X → List (Option Bool)) (xs : List X) (i : ℕ) (x : X) → i < length xs → x ≡ get_or xs i x → f x ≡ get_or (map f xs) i []
read-map f [] i x h e = absurd (omega arith)
read-map f (y ∷ ys) zero x h e = ap f e
read-map f (y ∷ ys) (suc i) x h e = read-map f ys i x (omega arith) e

-- each element of a list has a number
pub is_some-position : (row : List (Option Bool)) (rows : List (List (Option Bool))) → Has row rows → is_some (position_from (row_eq row) 0 rows) ≡ true
is_some-position row rows h = let p = position-some 0 row rows h in ap is_some p.1

pub has-position : (row : List (Option Bool)) (rows : List (List (Option Bool))) → is_some (position_from (row_eq row) 0 rows) ≡ true → Has row rows
has-position row rows h = cases (position_from (row_eq row) 0 rows) refl h
  where
    cases : (o : Option ℕ) → position_from (row_eq row) 0 rows ≡ o → is_some o ≡ true → Has row rows
    cases None e k = absurd (true≢false (sym k))
    cases (Some i) e k = position-here 0 i row rows e

-- a list that grows by what one more element gives, while the rest shrinks
pub grow : {X : Type 0} (made more rest now all : List X) → made ++ (more ++ rest) ≡ all → now ≡ made ++ more → now ++ rest ≡ all
grow made more rest now all h e = ap (λ (l : List _). l ++ rest) e ∙ append_assoc made more rest ∙ h

pub positive : (n : ℕ) → eqb n 0 ≡ false → 0 < n
positive zero h = absurd (true≢false h)
positive (suc n) h = omega arith

pub empty : (n : ℕ) → eqb n 0 ≡ true → n ≡ 0
empty n h = eqb-true n 0 h

-- rows of one number are one
pub one-row : (rows : List (List (Option Bool))) (x y : List (Option Bool)) → is_some (position_from (row_eq x) 0 rows) ≡ true → position_from (row_eq x) 0 rows ≡ position_from (row_eq y) 0 rows → x ≡ y
one-row rows x y s e = cases (position_from (row_eq x) 0 rows) refl s
  where
    cases : (o : Option ℕ) → position_from (row_eq x) 0 rows ≡ o → is_some o ≡ true → x ≡ y
    cases None h k = absurd (true≢false (sym k))
    cases (Some i) h k = let z : i ≡ 0 + i = omega arith in let q : Some i ≡ Some (0 + i) = ap (λ (n : ℕ). Some n) z in sym (position-same 0 i x rows (h ∙ q)) ∙ position-same 0 i y rows (sym e ∙ h ∙ q)
