-- Reduced trees that compute one function are one tree.
use Rattle.std.proofs.Common.{◌≡◌, ℕ, suc, ◌<◌, ◌≤◌, inl, inr, Bool, true, false, eqb, if◌then◌else◌, refl, ap, sym, ◌∙◌, subst, arith, eq-eqb}
use Rattle.std.proofs.lemmas.Bool.{eqb-true, cases_order}
use Rattle.func_core.specs.Trees.{Tree, Zero, One, Node, eval, IsReduced}

-- the assignment with one variable's bit changed
pub put : (ℕ → Bool) → ℕ → Bool → ℕ → Bool
put point place bit n = if eqb n place then bit else point n

put-same : (point : ℕ → Bool) (place : ℕ) (bit : Bool) → put point place bit place ≡ bit
unfolding put
put-same point place bit = rw (eq-eqb place place refl) refl

put-other : (point : ℕ → Bool) (place : ℕ) (bit : Bool) (n : ℕ) → place < n → put point place bit n ≡ point n
unfolding put
put-other point place bit n below = cases (eqb n place) refl
  where
    cases : (same : Bool) → eqb n place ≡ same → (if same then bit else point n) ≡ point n
    cases true e = let k : n ≡ place = eqb-true n place e in absurd (omega arith)
    cases false e = refl

under-test : (a b x y z w : Bool) → a ≡ b → x ≡ y → z ≡ w → (if a then z else x) ≡ (if b then w else y)
under-test a b x y z w p q r = cc

-- a variable below all of a tree's is not read
eval-put : (t : Tree) (least place : ℕ) (bit : Bool) (point : ℕ → Bool) → IsReduced least t → place < least →
    eval t (put point place bit) ≡ eval t point
unfolding eval IsReduced
eval-put Zero least place bit point r below = refl
eval-put One least place bit point r below = refl
eval-put (Node other lo hi) least place bit point r below =
    let above : least ≤ other = r.0 in
    under-test _ _ _ _ _ _ (put-other point place bit other (omega arith))
    (eval-put lo (suc other) place bit point r.2 (omega arith))
    (eval-put hi (suc other) place bit point r.3 (omega arith))

test-false : (a x y : Bool) → a ≡ false → (if a then y else x) ≡ x
test-false a x y e = rw e refl

test-true : (a x y : Bool) → a ≡ true → (if a then y else x) ≡ y
test-true a x y e = rw e refl

-- the halves of a tree are what it computes with the variable fixed
pub eval-low : (place : ℕ) (lo hi : Tree) (point : ℕ → Bool) → IsReduced (suc place) lo →
    eval (Node place lo hi) (put point place false) ≡ eval lo point
unfolding eval
eval-low place lo hi point r =
    test-false _ _ _ (put-same point place false) ∙ eval-put lo (suc place) place false point r (omega arith)

pub eval-high : (place : ℕ) (lo hi : Tree) (point : ℕ → Bool) → IsReduced (suc place) hi →
    eval (Node place lo hi) (put point place true) ≡ eval hi point
unfolding eval
eval-high place lo hi point r =
    test-true _ _ _ (put-same point place true) ∙ eval-put hi (suc place) place true point r (omega arith)

pub one_tree : (least : ℕ) (t u : Tree) → IsReduced least t → IsReduced least u →
    ((point : ℕ → Bool) → eval t point ≡ eval u point) → t ≡ u
unfolding eval IsReduced
one_tree least Zero Zero r s same = refl
one_tree least Zero One r s same = let e : false ≡ true = same (λ n. false) in cc
one_tree least One Zero r s same = let e : true ≡ false = same (λ n. false) in cc
one_tree least One One r s same = refl
one_tree least Zero (Node w low high) r s same =
    let a : Zero ≡ low = one_tree (suc w) Zero low tt s.2 (λ point. same (put point w false) ∙ eval-low w low high point s.2) in
    let b : Zero ≡ high = one_tree (suc w) Zero high tt s.3 (λ point. same (put point w true) ∙ eval-high w low high point s.3) in
    absurd (s.1 (sym a ∙ b))
one_tree least One (Node w low high) r s same =
    let a : One ≡ low = one_tree (suc w) One low tt s.2 (λ point. same (put point w false) ∙ eval-low w low high point s.2) in
    let b : One ≡ high = one_tree (suc w) One high tt s.3 (λ point. same (put point w true) ∙ eval-high w low high point s.3) in
    absurd (s.1 (sym a ∙ b))
one_tree least (Node v lo hi) Zero r s same =
    let a : lo ≡ Zero = one_tree (suc v) lo Zero r.2 tt (λ point. sym (eval-low v lo hi point r.2) ∙ same (put point v false)) in
    let b : hi ≡ Zero = one_tree (suc v) hi Zero r.3 tt (λ point. sym (eval-high v lo hi point r.3) ∙ same (put point v true)) in
    absurd (r.1 (a ∙ sym b))
one_tree least (Node v lo hi) One r s same =
    let a : lo ≡ One = one_tree (suc v) lo One r.2 tt (λ point. sym (eval-low v lo hi point r.2) ∙ same (put point v false)) in
    let b : hi ≡ One = one_tree (suc v) hi One r.3 tt (λ point. sym (eval-high v lo hi point r.3) ∙ same (put point v true)) in
    absurd (r.1 (a ∙ sym b))
one_tree least (Node v lo hi) (Node w low high) r s same =
    elim (cases_order v w) [
      | inl e ↦
          let moved-low : IsReduced (suc v) low = subst (λ (o : ℕ). IsReduced (suc o) low) (sym e) s.2 in
          let moved-high : IsReduced (suc v) high = subst (λ (o : ℕ). IsReduced (suc o) high) (sym e) s.3 in
          let equal : (point : ℕ → Bool) → eval (Node v lo hi) point ≡ eval (Node v low high) point =
          λ point. same point ∙ sym (ap (λ (o : ℕ). eval (Node o low high) point) e) in
          let a : lo ≡ low = one_tree (suc v) lo low r.2 moved-low
          (λ point. sym (eval-low v lo hi point r.2) ∙ equal (put point v false) ∙ eval-low v low high point moved-low) in
          let b : hi ≡ high = one_tree (suc v) hi high r.3 moved-high
          (λ point. sym (eval-high v lo hi point r.3) ∙ equal (put point v true) ∙ eval-high v low high point moved-high) in
          cc
      | inr (inl below) ↦
          let other : IsReduced (suc v) (Node w low high) = (below, s.1, s.2, s.3) in
          let a : lo ≡ Node w low high = one_tree (suc v) lo (Node w low high) r.2 other
          (λ point. sym (eval-low v lo hi point r.2) ∙ same (put point v false)
          ∙ eval-put (Node w low high) (suc v) v false point other (omega arith)) in
          let b : hi ≡ Node w low high = one_tree (suc v) hi (Node w low high) r.3 other
          (λ point. sym (eval-high v lo hi point r.3) ∙ same (put point v true)
          ∙ eval-put (Node w low high) (suc v) v true point other (omega arith)) in
          absurd (r.1 (a ∙ sym b))
      | inr (inr above) ↦
          let other : IsReduced (suc w) (Node v lo hi) = (above, r.1, r.2, r.3) in
          let a : Node v lo hi ≡ low = one_tree (suc w) (Node v lo hi) low other s.2
          (λ point. sym (eval-put (Node v lo hi) (suc w) w false point other (omega arith)) ∙ same (put point w false)
          ∙ eval-low w low high point s.2) in
          let b : Node v lo hi ≡ high = one_tree (suc w) (Node v lo hi) high other s.3
          (λ point. sym (eval-put (Node v lo hi) (suc w) w true point other (omega arith)) ∙ same (put point w true)
          ∙ eval-high w low high point s.3) in
          absurd (s.1 (sym a ∙ b))
    ]
