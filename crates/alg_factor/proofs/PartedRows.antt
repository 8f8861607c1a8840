-- Rows divided by a literal, with one more row at the end.
use Rattle.std.proofs.Common.{◌≡◌, ℕ, Bool, true, false, if◌then◌else◌, Option, None, List, [], ◌∷◌, ◌++◌, get_or, set, map, refl, ap}
use Rattle.cube_cover.specs.Literals.{has_literal}
use Rattle.alg_factor.specs.Forms.{with_literal, no_literal}

pub with_keep : {X : Type 0} (f : X → List (Option Bool)) (i : ℕ) (b : Bool) (rows : List X) (row : X) → has_literal (get_or (f row) i None) b ≡ true → with_literal i b (map f (rows ++ row ∷ [])) ≡ with_literal i b (map f rows) ++ set (f row) i None ∷ []
unfolding with_literal
with_keep f i b [] row e = rw e refl
with_keep f i b (first ∷ rows) row e = cases (has_literal (get_or (f first) i None) b) (with_keep f i b rows row e)
  where
    cases : (t : Bool) → with_literal i b (map f (rows ++ row ∷ [])) ≡ with_literal i b (map f rows) ++ set (f row) i None ∷ []
        → (if t then set (f first) i None ∷ with_literal i b (map f (rows ++ row ∷ [])) else with_literal i b (map f (rows ++ row ∷ []))) ≡ (if t then set (f first) i None ∷ with_literal i b (map f rows) else with_literal i b (map f rows)) ++ set (f row) i None ∷ []
    cases true rest = ap (λ (xs : List (List (Option Bool))). set (f first) i None ∷ xs) rest
    cases false rest = rest

pub with_skip : {X : Type 0} (f : X → List (Option Bool)) (i : ℕ) (b : Bool) (rows : List X) (row : X) → has_literal (get_or (f row) i None) b ≡ false → with_literal i b (map f (rows ++ row ∷ [])) ≡ with_literal i b (map f rows)
unfolding with_literal
with_skip f i b [] row e = rw e refl
with_skip f i b (first ∷ rows) row e = cases (has_literal (get_or (f first) i None) b) (with_skip f i b rows row e)
  where
    cases : (t : Bool) → with_literal i b (map f (rows ++ row ∷ [])) ≡ with_literal i b (map f rows)
        → (if t then set (f first) i None ∷ with_literal i b (map f (rows ++ row ∷ [])) else with_literal i b (map f (rows ++ row ∷ []))) ≡ (if t then set (f first) i None ∷ with_literal i b (map f rows) else with_literal i b (map f rows))
    cases true rest = ap (λ (xs : List (List (Option Bool))). set (f first) i None ∷ xs) rest
    cases false rest = rest

pub others_keep : {X : Type 0} (f : X → List (Option Bool)) (i : ℕ) (b : Bool) (rows : List X) (row : X) → has_literal (get_or (f row) i None) b ≡ false → no_literal i b (map f (rows ++ row ∷ [])) ≡ no_literal i b (map f rows) ++ f row ∷ []
unfolding no_literal
others_keep f i b [] row e = rw e refl
others_keep f i b (first ∷ rows) row e = cases (has_literal (get_or (f first) i None) b) (others_keep f i b rows row e)
  where
    cases : (t : Bool) → no_literal i b (map f (rows ++ row ∷ [])) ≡ no_literal i b (map f rows) ++ f row ∷ []
        → (if t then no_literal i b (map f (rows ++ row ∷ [])) else f first ∷ no_literal i b (map f (rows ++ row ∷ []))) ≡ (if t then no_literal i b (map f rows) else f first ∷ no_literal i b (map f rows)) ++ f row ∷ []
    cases true rest = rest
    cases false rest = ap (λ (xs : List (List (Option Bool))). f first ∷ xs) rest

pub others_skip : {X : Type 0} (f : X → List (Option Bool)) (i : ℕ) (b : Bool) (rows : List X) (row : X) → has_literal (get_or (f row) i None) b ≡ true → no_literal i b (map f (rows ++ row ∷ [])) ≡ no_literal i b (map f rows)
unfolding no_literal
others_skip f i b [] row e = rw e refl
others_skip f i b (first ∷ rows) row e = cases (has_literal (get_or (f first) i None) b) (others_skip f i b rows row e)
  where
    cases : (t : Bool) → no_literal i b (map f (rows ++ row ∷ [])) ≡ no_literal i b (map f rows)
        → (if t then no_literal i b (map f (rows ++ row ∷ [])) else f first ∷ no_literal i b (map f (rows ++ row ∷ []))) ≡ (if t then no_literal i b (map f rows) else f first ∷ no_literal i b (map f rows))
    cases true rest = rest
    cases false rest = ap (λ (xs : List (List (Option Bool))). f first ∷ xs) rest
