-- Lists: tests that all names pass, and lists of the numbers of names.
use Rattle.std.proofs.Common.{◌≡◌, ℕ, zero, suc, ◌+◌, ◌<◌, Bool, true, false, ◌||◌, List, [], ◌∷◌, ◌++◌, length, take, drop, get_or, map, bytes_eq, refl, sym, ap, ◌∙◌, subst, arith}
use Rattle.std.specs.List.{list_all}
use Rattle.std.proofs.lemmas.Bool.{and_parts, and_from}
use Rattle.std.proofs.lemmas.List.{take-append-drop, drop_more}
use Rattle.circuit_model.specs.Names.{has}
use Rattle.circuit_laws.proofs.Names.{has_head, has_tail}

pub all_test : {X : Type 0} (test : X → Bool) (xs : List X) (k : ℕ) (x : X) → list_all test xs ≡
    true
    → k < length xs → x ≡ get_or xs k x → test x ≡ true
all_test test [] k x all low is = absurd (omega arith)
all_test test (y ∷ ys) zero x all low is =
    ap test is ∙ (and_parts (test y) (list_all test ys) all).0
all_test test (y ∷ ys) (suc k) x all low is =
    all_test test ys k x (and_parts (test y) (list_all test ys) all).1 (omega arith) is

-- a test that each name among some passes
pub tests_all : (test : List ℕ → Bool) (names : List (List ℕ))
    → ((name : List ℕ) → has names name ≡ true → test name ≡ true) → list_all test names ≡ true
tests_all test [] passes = refl
tests_all test (name ∷ names) passes =
    and_from (test name) (list_all test names) (passes name (has_head name names))
    (tests_all test names (λ other among. passes other (has_tail name names other among)))

-- one more name of some
has_end : (names : List (List ℕ)) (k : ℕ) (d other : List ℕ) → k < length names
    → has (take (suc k) names) other ≡ (has (take k names) other || bytes_eq other
    (get_or names k d))
has_end [] k d other low = absurd (omega arith)
has_end (name ∷ names) zero d other low = flat (bytes_eq other name)
  where
    flat : (b : Bool) → (b || false) ≡ b
    flat true = refl
    flat false = refl
has_end (name ∷ names) (suc k) d other low =
    cases (bytes_eq other name) (has_end names k d other (omega arith))
  where
    cases : (b : Bool)
        → has (take (suc k) names) other
        ≡ (has (take k names) other || bytes_eq other (get_or names k d))
        → (b || has (take (suc k) names) other)
        ≡ ((b || has (take k names) other) || bytes_eq other (get_or names k d))
    cases true rest = refl
    cases false rest = rest

pub has_more : (names : List (List ℕ)) (k : ℕ) (name other : List ℕ) → k < length names
    → name ≡ get_or names k name
    → has (take (k + 1) names) other ≡ (has (take k names) other || bytes_eq other name)
has_more names k name other low is =
    let e : suc k ≡ k + 1 = omega arith in
    subst (λ (n : ℕ). has (take n names) other ≡ (has (take k names) other || bytes_eq other name))
    e
    (has_end names k name other low
    ∙ ap (λ (n : List ℕ). has (take k names) other || bytes_eq other n) (sym is))

pub has_none : (names : List (List ℕ)) (other : List ℕ) → has (take 0 names) other ≡ false
has_none names other = refl

pub split_at : {X : Type 0} (xs : List X) (k : ℕ) (x : X) → k < length xs → x ≡ get_or xs k x
    → xs ≡ take k xs ++ x ∷ drop (k + 1) xs
split_at {X = X} xs k x low is =
    sym (take-append-drop k xs)
    ∙ ap (λ (rest : List X). take k xs ++ rest)
    (drop_more xs k x low ∙ ap (λ (y : X). y ∷ drop (k + 1) xs) (sym is))

pub among_at : (names : List (List ℕ)) (k : ℕ) (name : List ℕ) → k < length names
    → name ≡ get_or names k name → has names name ≡ true
among_at [] k name low is = absurd (omega arith)
among_at (first ∷ names) zero name low is =
    subst (λ (n : List ℕ). has (first ∷ names) n ≡ true) (sym is) (has_head first names)
among_at (first ∷ names) (suc k) name low is =
    has_tail first names name (among_at names k name (omega arith) is)

pub taken_more : {X : Type 0} (xs : List X) (k : ℕ) (x : X) → k < length xs → x ≡ get_or xs k x
    → take (k + 1) xs ≡ take k xs ++ x ∷ []
taken_more {X = X} xs k x low is =
    let e : suc k ≡ k + 1 = omega arith in
    subst (λ (n : ℕ). take n xs ≡ take k xs ++ x ∷ []) e (step xs k x low is)
  where
    step : (xs : List X) (k : ℕ) (x : X) → k < length xs → x ≡ get_or xs k x
        → take (suc k) xs ≡ take k xs ++ x ∷ []
    step [] k x low is = absurd (omega arith)
    step (y ∷ ys) zero x low is = ap (λ (z : X). z ∷ []) (sym is)
    step (y ∷ ys) (suc k) x low is = ap (λ (rest : List X). y ∷ rest) (step ys k x (omega arith) is)

pub test_mapped : {X : Type 0} (test : List ℕ → Bool) (name_of : X → List ℕ) (xs : List X) (k : ℕ)
    (x : X)
    → list_all test (map name_of xs) ≡ true → k < length xs → x ≡ get_or xs k x → test (name_of x) ≡
    true
test_mapped test name_of [] k x all low is = absurd (omega arith)
test_mapped test name_of (y ∷ ys) zero x all low is =
    ap (λ z. test (name_of z)) is ∙ (and_parts (test (name_of y)) (list_all test (map name_of ys))
    all).0
test_mapped test name_of (y ∷ ys) (suc k) x all low is =
    test_mapped test name_of ys k x
    (and_parts (test (name_of y)) (list_all test (map name_of ys)) all).1 (omega arith) is
