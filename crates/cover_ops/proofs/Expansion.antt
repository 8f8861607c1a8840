-- Laws of Shannon lists: the list is a cover of its function, and functions are the same exactly where their lists are.
use Rattle.std.proofs.Common.{◌≡◌, ℕ, zero, suc, Bool, true, false, ◌&&◌, ◌||◌, if◌then◌else◌, Option, Some, None, List, [], ◌∷◌, ◌++◌, length, map, refl, sym, ap, ◌∙◌, arith}
use Rattle.std.proofs.Math.Bool.{or-false}
use Rattle.std.proofs.lemmas.Bool.{and_from}
use Rattle.sis_base.specs.Rows.{agrees, matches, some_matches}
use Rattle.cover_ops.specs.Shannon.{bits_equal, same, shannon}
use Rattle.cover_ops.specs.Halves.{constant_list}
use Rattle.cube_cover.proofs.Points.{and_left, and_right, value-append}

pub equal_bits : (a b : Bool) → bits_equal a b ≡ true → a ≡ b
equal_bits true b h = sym h
equal_bits false true h = cc
equal_bits false false h = refl

pub bits_same : (a b : Bool) → a ≡ b → bits_equal a b ≡ true
bits_same true b h = sym h
bits_same false true h = cc
bits_same false false h = refl

pub same_points : (n : ℕ) (f g : List Bool → Bool) → same n f g ≡ true → (p : List Bool) → length p ≡ n → f p ≡ g p
unfolding same
same_points zero f g h [] e = equal_bits (f []) (g []) h
same_points zero f g h (b ∷ p) e = absurd (omega arith)
same_points (suc n) f g h [] e = absurd (omega arith)
same_points (suc n) f g h (false ∷ p) e = same_points n (λ q. f (false ∷ q)) (λ q. g (false ∷ q)) (and_left _ _ h) p (omega arith)
same_points (suc n) f g h (true ∷ p) e = same_points n (λ q. f (true ∷ q)) (λ q. g (true ∷ q)) (and_right _ _ h) p (omega arith)

pub points_same : (n : ℕ) (f g : List Bool → Bool) → ((p : List Bool) → length p ≡ n → f p ≡ g p) → same n f g ≡ true
unfolding same
points_same zero f g h = bits_same (f []) (g []) (h [] refl)
points_same (suc n) f g h =
    and_from _ _ (points_same n (λ q. f (false ∷ q)) (λ q. g (false ∷ q)) (λ p e. h (false ∷ p) (ap suc e))) (points_same n (λ q. f (true ∷ q)) (λ q. g (true ∷ q)) (λ p e. h (true ∷ p) (ap suc e)))

pub same_respects : (n : ℕ) (f g h k : List Bool → Bool) → ((p : List Bool) → length p ≡ n → f p ≡ h p) → ((p : List Bool) → length p ≡ n → g p ≡ k p) → same n f g ≡ same n h k
unfolding same
same_respects zero f g h k a b = rw (a [] refl, b [] refl) refl
same_respects (suc n) f g h k a b =
    let low : same n (λ q. f (false ∷ q)) (λ q. g (false ∷ q)) ≡ same n (λ q. h (false ∷ q)) (λ q. k (false ∷ q)) = same_respects n _ _ _ _ (λ p e. a (false ∷ p) (ap suc e)) (λ p e. b (false ∷ p) (ap suc e)) in
    let high : same n (λ q. f (true ∷ q)) (λ q. g (true ∷ q)) ≡ same n (λ q. h (true ∷ q)) (λ q. k (true ∷ q)) = same_respects n _ _ _ _ (λ p e. a (true ∷ p) (ap suc e)) (λ p e. b (true ∷ p) (ap suc e)) in
    rw (low, high) refl

-- functions that agree on the points of the width have one list
pub shannon_respects : (n : ℕ) (f g : List Bool → Bool) → ((p : List Bool) → length p ≡ n → f p ≡ g p) → shannon n f ≡ shannon n g
unfolding shannon
shannon_respects zero f g h = rw (h [] refl) refl
shannon_respects (suc n) f g h =
    let test : same n (λ q. f (false ∷ q)) (λ q. f (true ∷ q)) ≡ same n (λ q. g (false ∷ q)) (λ q. g (true ∷ q)) = same_respects n _ _ _ _ (λ p e. h (false ∷ p) (ap suc e)) (λ p e. h (true ∷ p) (ap suc e)) in
    let low : shannon n (λ q. f (false ∷ q)) ≡ shannon n (λ q. g (false ∷ q)) = shannon_respects n _ _ (λ p e. h (false ∷ p) (ap suc e)) in
    let high : shannon n (λ q. f (true ∷ q)) ≡ shannon n (λ q. g (true ∷ q)) = shannon_respects n _ _ (λ p e. h (true ∷ p) (ap suc e)) in
    rw (test, low, high) refl

value_cons : (l : Option Bool) (rows : List (List (Option Bool))) (b : Bool) (p : List Bool) → some_matches (map (λ row. l ∷ row) rows) (b ∷ p) ≡ (agrees l b && some_matches rows p)
unfolding some_matches matches
value_cons l [] b p = none (agrees l b)
  where
    none : (t : Bool) → false ≡ (t && false)
    none true = refl
    none false = refl
value_cons l (row ∷ rows) b p = cases (agrees l b) (value_cons l rows b p)
  where
    cases : (t : Bool) → some_matches (map (λ row. l ∷ row) rows) (b ∷ p) ≡ (t && some_matches rows p)
        → ((t && matches row p) || some_matches (map (λ row. l ∷ row) rows) (b ∷ p)) ≡ (t && (matches row p || some_matches rows p))
    cases true h = ap (λ (x : Bool). matches row p || x) h
    cases false h = h

-- the list is a cover of the function
pub value_shannon : (n : ℕ) (f : List Bool → Bool) (p : List Bool) → length p ≡ n → some_matches (shannon n f) p ≡ f p
unfolding shannon some_matches matches
value_shannon zero f [] e = cases (f [])
  where
    cases : (t : Bool) → some_matches (if t then [] ∷ [] else []) [] ≡ t
    cases true = refl
    cases false = refl
value_shannon zero f (b ∷ p) e = absurd (omega arith)
value_shannon (suc n) f [] e = absurd (omega arith)
value_shannon (suc n) f (b ∷ p) e =
    cases (same n (λ q. f (false ∷ q)) (λ q. f (true ∷ q))) refl b (value_shannon n (λ q. f (false ∷ q)) p (omega arith)) (value_shannon n (λ q. f (true ∷ q)) p (omega arith))
  where
    cases : (t : Bool) → same n (λ q. f (false ∷ q)) (λ q. f (true ∷ q)) ≡ t → (b : Bool) → some_matches (shannon n (λ q. f (false ∷ q))) p ≡ f (false ∷ p) → some_matches (shannon n (λ q. f (true ∷ q))) p ≡ f (true ∷ p)
        → some_matches (if t then map (λ row. None ∷ row) (shannon n (λ q. f (false ∷ q))) else map (λ row. Some false ∷ row) (shannon n (λ q. f (false ∷ q))) ++ map (λ row. Some true ∷ row) (shannon n (λ q. f (true ∷ q)))) (b ∷ p) ≡ f (b ∷ p)
    cases true h false low high = value_cons None (shannon n (λ q. f (false ∷ q))) false p ∙ low
    cases true h true low high = value_cons None (shannon n (λ q. f (false ∷ q))) true p ∙ low ∙ same_points n (λ q. f (false ∷ q)) (λ q. f (true ∷ q)) h p (omega arith)
    cases false h false low high =
        rw (
          value-append (map (λ row. Some false ∷ row) (shannon n (λ q. f (false ∷ q)))) (map (λ row. Some true ∷ row) (shannon n (λ q. f (true ∷ q)))) (false ∷ p),
          value_cons (Some false) (shannon n (λ q. f (false ∷ q))) false p,
          value_cons (Some true) (shannon n (λ q. f (true ∷ q))) false p,
        )
        (or-false (some_matches (shannon n (λ q. f (false ∷ q))) p) ∙ low)
    cases false h true low high =
        rw (
          value-append (map (λ row. Some false ∷ row) (shannon n (λ q. f (false ∷ q)))) (map (λ row. Some true ∷ row) (shannon n (λ q. f (true ∷ q)))) (true ∷ p),
          value_cons (Some false) (shannon n (λ q. f (false ∷ q))) true p,
          value_cons (Some true) (shannon n (λ q. f (true ∷ q))) true p,
        )
        high

pub lists_same : (n : ℕ) (f g : List Bool → Bool) → shannon n f ≡ shannon n g → same n f g ≡ true
lists_same n f g h = points_same n f g (λ p e. sym (value_shannon n f p e) ∙ ap (λ (rows : List (List (Option Bool))). some_matches rows p) h ∙ value_shannon n g p e)

pub shannon_constant : (n : ℕ) (b : Bool) → shannon n (λ p. b) ≡ constant_list n b
unfolding shannon
shannon_constant zero true = refl
shannon_constant zero false = refl
shannon_constant (suc n) b = rw (points_same n (λ q. b) (λ q. b) (λ p e. refl), shannon_constant n b) (cases b)
  where
    cases : (b : Bool) → map (λ (row : List (Option Bool)). None ∷ row) (constant_list n b) ≡ constant_list (suc n) b
    cases true = refl
    cases false = refl
