-- Parts that are kept, one after the other.
use Rattle.std.proofs.Common.{◌≡◌, ℕ, zero, suc, ◌+◌, ◌<◌, Bool, true, false, List, [], ◌∷◌, ◌++◌, filter, take, length, get_or, if◌then◌else◌, sym, ap, ◌∙◌, arith}

kept_next : {X : Type 0} (test : X → Bool) (items : List X) (i : ℕ) (item : X) → i < length items → item ≡ get_or items i item
    → filter test (take (suc i) items) ≡ filter test (take i items) ++ (if test item then item ∷ [] else [])
kept_next test [] i item lt is = absurd (omega (arith, lt))
kept_next {X} test (x ∷ items) zero item lt is = ap (λ (y : X). if test y then y ∷ [] else []) (sym is)
kept_next {X} test (x ∷ items) (suc i) item lt is = by (test x) (kept_next test items i item (omega (arith, lt)) is)
  where
    by : (b : Bool) → filter test (take (suc i) items) ≡ filter test (take i items) ++ (if test item then item ∷ [] else [])
        → (if b then x ∷ filter test (take (suc i) items) else filter test (take (suc i) items))
        ≡ (if b then x ∷ filter test (take i items) else filter test (take i items)) ++ (if test item then item ∷ [] else [])
    by true h = ap (λ (ys : List X). x ∷ ys) h
    by false h = h

pub filter_more : {X : Type 0} (test : X → Bool) (items : List X) (i : ℕ) (item : X) → i < length items → item ≡ get_or items i item
    → filter test (take (i + 1) items) ≡ filter test (take i items) ++ (if test item then item ∷ [] else [])
filter_more test items i item lt is = let e : i + 1 ≡ suc i = omega arith in ap (λ (n : ℕ). filter test (take n items)) e ∙ kept_next test items i item lt is
