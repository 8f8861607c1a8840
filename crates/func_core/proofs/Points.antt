-- The path of a reduced tree: its point makes the function true, and no variable occurs on it
-- twice.
use Rattle.std.proofs.Common.{◌≡◌, ℕ, suc, Bool, true, false, Some, None, List, ◌∷◌, if◌then◌else◌, refl, sym, ◌∙◌, subst}
use Rattle.func_core.specs.Trees.{Tree, Zero, One, Node, eval, IsReduced}
use Rattle.func_core.specs.Points.{is_constant_zero, path, one_path, Follows, IsRising}

pub is_zero-true : (t : Tree) → is_constant_zero t ≡ true → t ≡ Zero
is_zero-true Zero h = refl
is_zero-true One h = cc
is_zero-true (Node v lo hi) h = cc

test-false : (a x y : Bool) → a ≡ false → (if a then y else x) ≡ x
test-false a x y e = rw e refl

test-true : (a x y : Bool) → a ≡ true → (if a then y else x) ≡ y
test-true a x y e = rw e refl

-- where the first half of a reduced node is Zero the other isn't
pub high-stands : (lo hi : Tree) → (lo ≡ hi → ⊥) → is_constant_zero lo ≡ true → is_constant_zero hi ≡ false
high-stands lo hi different e = cases (is_constant_zero hi) refl
  where
    cases : (b : Bool) → is_constant_zero hi ≡ b → b ≡ false
    cases true f = absurd (different (is_zero-true lo e ∙ sym (is_zero-true hi f)))
    cases false f = refl

path-true : (least : ℕ) (t : Tree) (point : ℕ → Bool) → IsReduced least t → is_constant_zero t ≡ false →
    Follows point (path t) → eval t point ≡ true
unfolding eval IsReduced path Follows
path-true least Zero point r z f = cc
path-true least One point r z f = refl
path-true least (Node place lo hi) point r z f =
    cases (is_constant_zero lo) refl (path-true (suc place) lo point r.2) (path-true (suc place) hi point r.3) f
  where
    cases : (b : Bool) → is_constant_zero lo ≡ b →
        (is_constant_zero lo ≡ false → Follows point (path lo) → eval lo point ≡ true) →
        (is_constant_zero hi ≡ false → Follows point (path hi) → eval hi point ≡ true) →
        Follows point (if b then (place, true) ∷ path hi else (place, false) ∷ path lo) →
        (if point place then eval hi point else eval lo point) ≡ true
    cases true e p q g = test-true _ _ _ g.0 ∙ q (high-stands lo hi r.1 e) g.1
    cases false e p q g = test-false _ _ _ g.0 ∙ p e g.1

path-rises : (least : ℕ) (t : Tree) → IsReduced least t → IsRising least (path t)
unfolding IsReduced path IsRising
path-rises least Zero r = tt
path-rises least One r = tt
path-rises least (Node place lo hi) r =
    cases (is_constant_zero lo) (path-rises (suc place) lo r.2) (path-rises (suc place) hi r.3)
  where
    cases : (b : Bool) → IsRising (suc place) (path lo) → IsRising (suc place) (path hi) →
        IsRising least (if b then (place, true) ∷ path hi else (place, false) ∷ path lo)
    cases true p q = (r.0, q)
    cases false p q = (r.0, p)

-- the cases of one_path's answer
given : (b : Bool) (p ls : List (ℕ × Bool)) → (if b then None else Some p) ≡ Some ls → (b ≡ false) × (p ≡ ls)
given true p ls h = cc
given false p ls h = (refl, cc)

none : (b : Bool) (p : List (ℕ × Bool)) → (if b then None else Some p) ≡ None → b ≡ true
none true p h = refl
none false p h = cc

pub no-point-zero : (t : Tree) → one_path t ≡ None → t ≡ Zero
no-point-zero t h = is_zero-true t (none (is_constant_zero t) (path t) h)

pub point-true : (least : ℕ) (t : Tree) (literals : List (ℕ × Bool)) (point : ℕ → Bool) →
    IsReduced least t → one_path t ≡ Some literals → Follows point literals → eval t point ≡ true
point-true least t literals point r h f =
    let k : (is_constant_zero t ≡ false) × (path t ≡ literals) = given (is_constant_zero t) (path t) literals h in
    path-true least t point r k.0 (subst (λ (ls : List (ℕ × Bool)). Follows point ls) (sym k.1) f)

pub point-rises : (least : ℕ) (t : Tree) (literals : List (ℕ × Bool)) → IsReduced least t →
    one_path t ≡ Some literals → IsRising least literals
point-rises least t literals r h =
    let k : (is_constant_zero t ≡ false) × (path t ≡ literals) = given (is_constant_zero t) (path t) literals h in
    subst (λ (ls : List (ℕ × Bool)). IsRising least ls) k.1 (path-rises least t r)
