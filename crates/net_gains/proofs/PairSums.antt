-- Sums over items, and over pairs of items with the earlier one first: items and pairs that pass a
-- test have a key, and if each key is that of only one of them, the sum is one over the keys.
use Rattle.std.proofs.Common.{◌≡◌, ◌⊎◌, ℕ, ◌+◌, Bool, true, false, cond, List, [], ◌∷◌, ◌++◌, map, filter, length, refl, sym, ap₂, ◌∙◌, subst, inl, inr, arith}
use Rattle.std.specs.List.{sum_by}
use Rattle.std.proofs.lemmas.List.Sums.{sum_by-cons, sum_by-append}
use Rattle.alg_div.specs.Cubes.{Has}
use Rattle.alg_div.proofs.Lists.{Has-left, Has-right, Has-append, Has-map}
use Rattle.net_candidates.proofs.Sums.{sum_mapped, AreOnce, once_kept, once_mapped, once_append, sum_same}
use Rattle.net_gains.specs.Gains.{over_pairs}
use Rattle.alg_tables.proofs.Quotients.{kept_has, has_kept, image_has}

-- ---- sums of zeros, of ones and of images

pub sum_none : {X : Type 0} (f : X → ℕ) (xs : List X) → ((x : X) → Has x xs → f x ≡ 0) → sum_by f xs ≡ 0
sum_none f [] h = refl
sum_none f (x ∷ xs) h = omega (arith, sum_by-cons f x xs, h x (inl refl), sum_none f xs (λ y m. h y (inr m)))

pub sum_ones : {X : Type 0} (xs : List X) → sum_by (λ (x : X). 1) xs ≡ length xs
sum_ones [] = refl
sum_ones {X} (x ∷ xs) = omega (arith, sum_by-cons (λ (y : X). 1) x xs, sum_ones xs)

pub pairs_none : {X : Type 0} (gain : X → X → ℕ) (xs : List X) → ((x y : X) → Has x xs → Has y xs → gain x y ≡ 0) → over_pairs gain xs ≡ 0
unfolding over_pairs
pairs_none gain [] h = refl
pairs_none gain (x ∷ xs) h =
    omega (arith, sum_none (gain x) xs (λ y m. h x y (inl refl) (inr m)), pairs_none gain xs (λ y z m n. h y z (inr m) (inr n)))

pub pairs_mapped : {X Y : Type 0} (gain : Y → Y → ℕ) (f : X → Y) (xs : List X) → over_pairs gain (map f xs) ≡ over_pairs (λ x y. gain (f x) (f y)) xs
unfolding over_pairs
pairs_mapped gain f [] = refl
pairs_mapped gain f (x ∷ xs) = ap₂ (λ (m n : ℕ). m + n) (sum_mapped (gain (f x)) f xs) (pairs_mapped gain f xs)

-- ---- pairs in the order of a list

-- one item before another one
abbrev pub Before : {X : Type 0} → X → X → List X → Type 0
Before one other [] = ⊥
Before one other (item ∷ items) = ((one ≡ item) × Has other items) ⊎ Before one other items

-- of two items one is before the other
pub one_before : {X : Type 0} (one other : X) (xs : List X) → Has one xs → Has other xs → (one ≡ other → ⊥) → Before one other xs ⊎ Before other one xs
one_before one other [] m n apart = absurd m
one_before one other (x ∷ xs) (inl e) (inl k) apart = absurd (apart (e ∙ sym k))
one_before one other (x ∷ xs) (inl e) (inr n) apart = inl (inl (e, n))
one_before one other (x ∷ xs) (inr m) (inl k) apart = inr (inl (k, m))
one_before one other (x ∷ xs) (inr m) (inr n) apart =
    elim (one_before one other xs m n apart) as (λ _. Before one other (x ∷ xs) ⊎ Before other one (x ∷ xs)) [ inl a ↦ inl (inr a) | inr b ↦ inr (inr b) ]

-- ---- keys of items

module _ {X Q : Type 0} (test : X → Bool) (key : X → Q) where
  -- the keys of the items that pass the test
  abbrev pub keys : List X → List Q
  keys xs = map key (filter test xs)

  pub keys_have : (xs : List X) (c : Q) → Has c (keys xs) → (x : X) × Has x xs × (test x ≡ true) × (c ≡ key x)
  keys_have xs c m =
      let (x, among, e) = image_has key (filter test xs) c m in
      let (here, passes) = kept_has test xs x among in
      (x, here, passes, e)

  pub have_keys : (xs : List X) (x : X) → Has x xs → test x ≡ true → Has (key x) (keys xs)
  have_keys xs x m h = Has-map key x (filter test xs) (has_kept test xs x m h)

  pub keys_once : (xs : List X) → AreOnce xs → ((x y : X) → Has x xs → Has y xs → test x ≡ true → test y ≡ true → key x ≡ key y → x ≡ y) → AreOnce (keys xs)
  keys_once xs once tells =
      once_mapped key (filter test xs)
      (λ x y m n e.
      let (here, passes) = kept_has test xs x m in
      let (there, too) = kept_has test xs y n in
      tells x y here there passes too e)
      (once_kept test xs once)

  pub keys_weigh : (f : X → ℕ) (weight : Q → ℕ) (xs : List X) → ((x : X) → Has x xs → f x ≡ cond {A = ℕ} (test x) (weight (key x)) 0) → sum_by f xs ≡ sum_by weight (keys xs)
  keys_weigh f weight [] h = refl
  keys_weigh f weight (x ∷ xs) h = cases (test x) (h x (inl refl)) (keys_weigh f weight xs (λ y m. h y (inr m)))
    where
      cases : (b : Bool) → f x ≡ cond {A = ℕ} b (weight (key x)) 0 → sum_by f xs ≡ sum_by weight (keys xs) → sum_by f (x ∷ xs) ≡ sum_by weight (map key (cond b (x ∷ filter test xs) (filter test xs)))
      cases true e rest = omega (arith, e, rest, sum_by-cons f x xs, sum_by-cons weight (key x) (keys xs))
      cases false e rest = omega (arith, e, rest, sum_by-cons f x xs)

  -- the sum over the items is the sum over exactly their keys
  pub items_are : (f : X → ℕ) (weight : Q → ℕ) (xs : List X) (cs : List Q) → AreOnce xs → AreOnce cs
      → ((x : X) → Has x xs → f x ≡ cond {A = ℕ} (test x) (weight (key x)) 0)
      → ((x y : X) → Has x xs → Has y xs → test x ≡ true → test y ≡ true → key x ≡ key y → x ≡ y)
      → ((x : X) → Has x xs → test x ≡ true → Has (key x) cs)
      → ((c : Q) → Has c cs → (x : X) × Has x xs × (test x ≡ true) × (key x ≡ c))
      → sum_by f xs ≡ sum_by weight cs
  items_are f weight xs cs once all weighs tells to back =
      keys_weigh f weight xs weighs
      ∙ sum_same weight (keys xs) cs (keys_once xs once tells) all
      (λ c m. (let (x, here, passes, e) = keys_have xs c m in subst (λ (d : Q). Has d cs) (sym e) (to x here passes)))
      (λ c m. (let (x, here, passes, e) = back c m in subst (λ (d : Q). Has d (keys xs)) e (have_keys xs x here passes)))

-- ---- keys of pairs

-- two items are a left and a right one, or conversely
abbrev pub AreTold : {X : Type 0} → X → X → X → X → Type 0
AreTold left right x y = ((x ≡ left) × (y ≡ right)) ⊎ ((x ≡ right) × (y ≡ left))

told_second : {X : Type 0} (left right x y z : X) → AreTold left right x y → AreTold left right x z → y ≡ z
told_second left right x y z (inl a) (inl b) = a.1 ∙ sym b.1
told_second left right x y z (inl a) (inr b) = (a.1 ∙ sym b.0) ∙ (a.0 ∙ sym b.1)
told_second left right x y z (inr a) (inl b) = (a.1 ∙ sym b.0) ∙ (a.0 ∙ sym b.1)
told_second left right x y z (inr a) (inr b) = a.1 ∙ sym b.1

told_first : {X : Type 0} (left right x y u v : X) → AreTold left right x y → AreTold left right u v → (x ≡ u) ⊎ (x ≡ v)
told_first left right x y u v (inl a) (inl b) = inl (a.0 ∙ sym b.0)
told_first left right x y u v (inl a) (inr b) = inr (a.0 ∙ sym b.1)
told_first left right x y u v (inr a) (inl b) = inr (a.0 ∙ sym b.1)
told_first left right x y u v (inr a) (inr b) = inl (a.0 ∙ sym b.0)

module _ {X Q : Type 0} (test : X → X → Bool) (key : X → X → Q) where
  -- the keys of the pairs that pass the test
  abbrev pub pair_keys : List X → List Q
  pair_keys [] = []
  pair_keys (x ∷ xs) = keys (test x) (key x) xs ++ pair_keys xs

  pub pair_keys_have : (xs : List X) (c : Q) → Has c (pair_keys xs) → (x : X) × (y : X) × Has x xs × Has y xs × (test x y ≡ true) × (c ≡ key x y)
  pair_keys_have [] c m = absurd m
  pair_keys_have (z ∷ zs) c m =
      elim (Has-append c (keys (test z) (key z) zs) (pair_keys zs) m) as (λ _. (x : X) × (y : X) × Has x (z ∷ zs) × Has y (z ∷ zs) × (test x y ≡ true) × (c ≡ key x y)) [
        | inl a ↦ (let (y, here, passes, e) = keys_have (test z) (key z) zs c a in (z, y, inl refl, inr here, passes, e))
        | inr b ↦ (let (x, y, first, second, passes, e) = pair_keys_have zs c b in (x, y, inr first, inr second, passes, e))
      ]

  pub have_pair_keys : (x y : X) (xs : List X) → Before x y xs → test x y ≡ true → Has (key x y) (pair_keys xs)
  have_pair_keys x y [] m h = absurd m
  have_pair_keys x y (z ∷ zs) m h =
      elim m as (λ _. Has (key x y) (pair_keys (z ∷ zs))) [
        | inl p ↦ Has-left (key x y) (keys (test z) (key z) zs) (pair_keys zs) (subst (λ (w : X). Has (key x y) (keys (test w) (key w) zs)) p.0 (have_keys (test x) (key x) zs y p.1 h))
        | inr n ↦ Has-right (key x y) (keys (test z) (key z) zs) (pair_keys zs) (have_pair_keys x y zs n h)
      ]

  pub pair_keys_weigh : (gain : X → X → ℕ) (weight : Q → ℕ) (xs : List X) → ((x y : X) → Has x xs → Has y xs → gain x y ≡ cond {A = ℕ} (test x y) (weight (key x y)) 0)
      → over_pairs gain xs ≡ sum_by weight (pair_keys xs)
  unfolding over_pairs
  pair_keys_weigh gain weight [] h = refl
  pair_keys_weigh gain weight (x ∷ xs) h =
      ap₂ (λ (m n : ℕ). m + n) (keys_weigh (test x) (key x) (gain x) weight xs (λ y m. h x y (inl refl) (inr m))) (pair_keys_weigh gain weight xs (λ y z m n. h y z (inr m) (inr n)))
      ∙ sym (sum_by-append weight (keys (test x) (key x) xs) (pair_keys xs))

  module _ (left right : Q → X) where
    pub pair_keys_once : (xs : List X) → AreOnce xs → ((x y : X) → Has x xs → Has y xs → test x y ≡ true → AreTold (left (key x y)) (right (key x y)) x y) → AreOnce (pair_keys xs)
    pair_keys_once [] once tells = tt
    pair_keys_once (x ∷ xs) once tells =
        once_append (keys (test x) (key x) xs) (pair_keys xs)
        (keys_once (test x) (key x) xs once.1
        (λ y z m n h k e.
        told_second (left (key x y)) (right (key x y)) x y z (tells x y (inl refl) (inr m) h) (subst (λ (c : Q). AreTold (left c) (right c) x z) (sym e) (tells x z (inl refl) (inr n) k))))
        (pair_keys_once xs once.1 (λ y z m n h. tells y z (inr m) (inr n) h))
        (λ c m n.
        let (y, here, passes, e) = keys_have (test x) (key x) xs c m in
        let (u, v, first, second, too, k) = pair_keys_have xs c n in
        elim (told_first (left c) (right c) x y u v (subst (λ (d : Q). AreTold (left d) (right d) x y) (sym e) (tells x y (inl refl) (inr here) passes))
        (subst (λ (d : Q). AreTold (left d) (right d) u v) (sym k) (tells u v (inr first) (inr second) too))) as (λ _. ⊥) [
          | inl a ↦ once.0 (subst (λ (z : X). Has z xs) (sym a) first)
          | inr b ↦ once.0 (subst (λ (z : X). Has z xs) (sym b) second)
        ])

    -- the sum over the pairs is the sum over exactly their keys
    pub pairs_are : (gain : X → X → ℕ) (weight : Q → ℕ) (xs : List X) (cs : List Q) → AreOnce xs → AreOnce cs
        → ((x y : X) → Has x xs → Has y xs → gain x y ≡ cond {A = ℕ} (test x y) (weight (key x y)) 0)
        → ((x y : X) → Has x xs → Has y xs → test x y ≡ true → AreTold (left (key x y)) (right (key x y)) x y)
        → ((x y : X) → Has x xs → Has y xs → test x y ≡ true → Has (key x y) cs)
        → ((c : Q) → Has c cs → (x : X) × (y : X) × Before x y xs × (test x y ≡ true) × (key x y ≡ c))
        → over_pairs gain xs ≡ sum_by weight cs
    pairs_are gain weight xs cs once all weighs tells to back =
        pair_keys_weigh gain weight xs weighs
        ∙ sum_same weight (pair_keys xs) cs (pair_keys_once xs once tells) all
        (λ c m. (let (x, y, first, second, passes, e) = pair_keys_have xs c m in subst (λ (d : Q). Has d cs) (sym e) (to x y first second passes)))
        (λ c m. (let (x, y, before, passes, e) = back c m in subst (λ (d : Q). Has d (pair_keys xs)) e (have_pair_keys x y xs before passes)))
