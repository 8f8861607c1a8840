-- What choices stand open at a vertex: those that come from matches are just those that stand.
use Rattle.std.proofs.Common.{◌≡◌, ℕ, zero, suc, ◌<◌, ◌≤◌, ◌==◌, Bool, true, false, if◌then◌else◌, Option, Some, None, List, [], ◌∷◌, ◌++◌, length, map, slice_get, refl, sym, ap, ◌∙◌, subst, inl, inr, ◌⊎◌, arith}
use Rattle.std.specs.List.{AllByRecursion}
use Rattle.std.specs.Option.{option_map_or}
use Rattle.std.proofs.lemmas.Bool.{cases_eq}
use Rattle.std.proofs.lemmas.Option.{same_Some, none-some}
use Rattle.subject_tree.specs.Trees.{Tree, Leaf, Inv, Nand}
use Rattle.subject_tree.specs.Arenas.{vertex_at, IsOver, IsArena}
use Rattle.subject_tree.specs.declared.arena.Vertex.{Vertex}
use Rattle.subject_tree.specs.declared.arena.Vertex.TheVariants.{Leaf as AtLeaf, Inv as AtInv, Nand as AtNand}
use Rattle.subject_tree.proofs.Arenas.{over_all}
use Rattle.pattern_set.specs.Values.{HasLeaf}
use Rattle.pattern_set.proofs.Exact.{In, in_either, from_flat}
use Rattle.tree_cover.specs.declared.binding.Binding.{Binding}
use Rattle.tree_cover.specs.Covers.{IsProper}
use Rattle.tree_cover.specs.Bindings.{bound_as, bind, under_inverter, under_nand, grown}
use Rattle.tree_cover.specs.Candidates.{bound_at}
use Rattle.tree_cover.proofs.Agreeing.{bind_sound, get_set_same, get_set_other, grown_sound}

-- what a pin is bound to in what one pin's binding gives
pub bind_binds : (pin n : ℕ) (b c : Binding) (other m : ℕ) → In c (bind pin n b) → slice_get c.pins other ≡ Some (Some m) → ((other ≡ pin) × (m ≡ n)) ⊎ (slice_get b.pins other ≡ Some (Some m))
bind_binds pin n b c other m h at = by_pin (slice_get b.pins pin) refl h
  where
    by_pin : (o : Option (Option ℕ)) → slice_get b.pins pin ≡ o → In c (bound_as pin n b o) → ((other ≡ pin) × (m ≡ n)) ⊎ (slice_get b.pins other ≡ Some (Some m))
    by_pin None e h = elim h [ ]
    by_pin (Some None) e (inr h) = elim h [ ]
    by_pin (Some None) e (inl is) = elim (cases_eq other pin) as (λ _. ((other ≡ pin) × (m ≡ n)) ⊎ (slice_get b.pins other ≡ Some (Some m))) [
      | inl same ↦
          let now : slice_get c.pins pin ≡ Some (Some n) = ap (λ (d : Binding). slice_get d.pins pin) (sym is) ∙ get_set_same b.pins pin None (Some n) e in
          inl (same, same_Some m n (same_Some (Some m) (Some n) (sym at ∙ (ap (slice_get c.pins) same ∙ now))))
      | inr ne ↦ inr (sym (get_set_other b.pins pin other (Some n) ne) ∙ (ap (λ (d : Binding). slice_get d.pins other) is ∙ at))
    ]
    by_pin (Some (Some k)) e h = by_test (k == n) h
      where
        by_test : (t : Bool) → In c (if t then b ∷ [] else []) → ((other ≡ pin) × (m ≡ n)) ⊎ (slice_get b.pins other ≡ Some (Some m))
        by_test true (inl is) = inr (ap (λ (d : Binding). slice_get d.pins other) is ∙ at)
        by_test true (inr no_more) = elim no_more [ ]
        by_test false h = elim h [ ]

-- a pin that is bound in what grew is a leaf of the pattern, bound at most to the number, and below it where the pattern is
-- more than a pin; or it was bound before
abbrev pub Bound : Tree ℕ → ℕ → List Binding → ℕ → ℕ → Type 0
Bound p n bs pin m = ((m ≤ n) × HasLeaf pin p × (IsProper p → m < n)) ⊎ ((b : Binding) × In b bs × (slice_get b.pins pin ≡ Some (Some m)))

pub inverter_binds : (p : Tree ℕ) (n : ℕ) (bs : List Binding) (c : Binding) (pin m : ℕ) (v : Vertex) (f : ℕ → List Binding) → IsOver n v → In c (under_inverter v f) → ((k : ℕ) → In c (f k) → Bound p k bs pin m) → Bound (Inv p) n bs pin m
unfolding HasLeaf IsProper
inverter_binds p n bs c pin m (AtLeaf place) f over h rest = elim h [ ]
inverter_binds p n bs c pin m (AtInv k) f over h rest = elim (rest k h) as (λ _. Bound (Inv p) n bs pin m) [
  | inl (le, leaf, proper) ↦ inl (omega (arith, le, over), leaf, λ u. omega (arith, le, over))
  | inr old ↦ inr old
]
inverter_binds p n bs c pin m (AtNand j k) f over h rest = elim h [ ]

pub nand_binds : (p q : Tree ℕ) (n : ℕ) (bs : List Binding) (c : Binding) (pin m : ℕ) (v : Vertex) (f : ℕ → ℕ → List Binding) → IsOver n v → In c (under_nand v f)
    → ((j k : ℕ) → j < n → k < n → In c (f j k) → Bound (Nand p q) n bs pin m) → Bound (Nand p q) n bs pin m
nand_binds p q n bs c pin m (AtLeaf place) f over h rest = elim h [ ]
nand_binds p q n bs c pin m (AtInv k) f over h rest = elim h [ ]
nand_binds p q n bs c pin m (AtNand j k) f over h rest = rest j k over.0 over.1 h

-- the right side of a NAND is matched behind the left one
pub right_after_left : (p q : Tree ℕ) (n j k : ℕ) (bs ds : List Binding) (pin m : ℕ) → j < n → k < n → Bound q k ds pin m → ((d : Binding) → In d ds → slice_get d.pins pin ≡ Some (Some m) → Bound p j bs pin m) → Bound (Nand p q) n bs pin m
unfolding HasLeaf IsProper
right_after_left p q n j k bs ds pin m first second (inl (le, leaf, proper)) left = inl (omega (arith, le, second), inr leaf, λ u. omega (arith, le, second))
right_after_left p q n j k bs ds pin m first second (inr (d, there, e)) left = elim (left d there e) as (λ _. Bound (Nand p q) n bs pin m) [
  | inl (le, leaf, proper) ↦ inl (omega (arith, le, first), inl leaf, λ u. omega (arith, le, first))
  | inr old ↦ inr old
]

module _ (vs : List Vertex) (arena : IsArena vs) where
  pub grown_binds : (p : Tree ℕ) (n : ℕ) (bs : List Binding) (c : Binding) (pin m : ℕ) → In c (grown vs p n bs) → slice_get c.pins pin ≡ Some (Some m) → Bound p n bs pin m
  unfolding grown HasLeaf IsProper
  grown_binds (Leaf leaf) n bs c pin m h at =
      let (b, there, k) = from_flat (bind leaf n) c bs h in
      elim (bind_binds leaf n b c pin m k at) as (λ _. Bound (Leaf leaf) n bs pin m) [
        | inl (e, f) ↦ inl (omega (arith, f), sym e, λ proper. absurd proper)
        | inr old ↦ inr (b, there, old)
      ]
  grown_binds (Inv p) n bs c pin m h at = inverter_binds p n bs c pin m (vertex_at vs n) (λ k. grown vs p k bs) (over_all vs arena n).0 h (λ k i. grown_binds p k bs c pin m i at)
  grown_binds (Nand p q) n bs c pin m h at =
      nand_binds p q n bs c pin m (vertex_at vs n) (λ j k. grown vs q k (grown vs p j bs) ++ grown vs q j (grown vs p k bs)) (over_all vs arena n).0 h
      (λ j k first second i. elim (in_either c (grown vs q k (grown vs p j bs)) (grown vs q j (grown vs p k bs)) i) as (λ _. Bound (Nand p q) n bs pin m) [
        | inl a ↦ right_after_left p q n j k bs (grown vs p j bs) pin m first second (grown_binds q k (grown vs p j bs) c pin m a at) (λ d there e. grown_binds p j bs d pin m there e)
        | inr a ↦ right_after_left p q n k j bs (grown vs p k bs) pin m second first (grown_binds q j (grown vs p k bs) c pin m a at) (λ d there e. grown_binds p k bs d pin m there e)
      ])

  -- each leaf of the pattern is bound in what grew
  abbrev pub IsBound : Binding → ℕ → Type 0
  IsBound c pin = (m : ℕ) × (slice_get c.pins pin ≡ Some (Some m))

  inverter_bound : (c : Binding) (pin : ℕ) (v : Vertex) (f : ℕ → List Binding) → IsOver (length vs) v → In c (under_inverter v f) → ((k : ℕ) → k < length vs → In c (f k) → IsBound c pin) → IsBound c pin
  inverter_bound c pin (AtLeaf place) f over h rest = elim h [ ]
  inverter_bound c pin (AtInv k) f over h rest = rest k over h
  inverter_bound c pin (AtNand j k) f over h rest = elim h [ ]

  nand_bound : (c : Binding) (pin : ℕ) (v : Vertex) (f : ℕ → ℕ → List Binding) → IsOver (length vs) v → In c (under_nand v f) → ((j k : ℕ) → j < length vs → k < length vs → In c (f j k) → IsBound c pin) → IsBound c pin
  nand_bound c pin (AtLeaf place) f over h rest = elim h [ ]
  nand_bound c pin (AtInv k) f over h rest = elim h [ ]
  nand_bound c pin (AtNand j k) f over h rest = rest j k over.0 over.1 h

  pub leaf_bound : (p : Tree ℕ) (n : ℕ) (bs : List Binding) (c : Binding) (pin : ℕ) → n < length vs → HasLeaf pin p → In c (grown vs p n bs) → IsBound c pin
  unfolding grown HasLeaf
  leaf_bound (Leaf leaf) n bs c pin lt e h =
      let (b, there, k) = from_flat (bind leaf n) c bs h in
      (n, ap (slice_get c.pins) (sym e) ∙ (bind_sound vs arena leaf n b c lt k).1)
  leaf_bound (Inv p) n bs c pin lt leaf h =
      inverter_bound c pin (vertex_at vs n) (λ k. grown vs p k bs) (over_all vs arena n).1 h (λ k over i. leaf_bound p k bs c pin over leaf i)
  leaf_bound (Nand p q) n bs c pin lt leaf h =
      nand_bound c pin (vertex_at vs n) (λ j k. grown vs q k (grown vs p j bs) ++ grown vs q j (grown vs p k bs)) (over_all vs arena n).1 h
      (λ j k first second i. elim (in_either c (grown vs q k (grown vs p j bs)) (grown vs q j (grown vs p k bs)) i) as (λ _. IsBound c pin) [
        | inl a ↦ side p q (grown vs p j bs) k c second leaf a (λ d there left. leaf_bound p j bs d pin first left there) (λ right. leaf_bound q k (grown vs p j bs) c pin second right a)
        | inr a ↦ side p q (grown vs p k bs) j c first leaf a (λ d there left. leaf_bound p k bs d pin second left there) (λ right. leaf_bound q j (grown vs p k bs) c pin first right a)
      ])
    where
      side : (p q : Tree ℕ) (ds : List Binding) (k : ℕ) (c : Binding) → k < length vs → HasLeaf pin p ⊎ HasLeaf pin q → In c (grown vs q k ds) → ((d : Binding) → In d ds → HasLeaf pin p → IsBound d pin) → (HasLeaf pin q → IsBound c pin) → IsBound c pin
      side p q ds k c over (inr right) a left here = here right
      side p q ds k c over (inl l) a left here =
          let (d, there, extends, holds) = grown_sound vs arena q k ds c over a in
          let (m, e) = left d there l in
          (m, extends pin m e)

pub get_map : {A B : Type 0} (f : A → B) (xs : List A) (i : ℕ) (x : A) → slice_get xs i ≡ Some x → slice_get (map f xs) i ≡ Some (f x)
get_map f [] i x at = absurd (none-some x at)
get_map f (y ∷ ys) zero x at = ap (λ (z : _). Some (f z)) (same_Some y x at)
get_map f (y ∷ ys) (suc i) x at = get_map f ys i x at

pub from_get_map : {A B : Type 0} (f : A → B) (xs : List A) (i : ℕ) (y : B) → slice_get (map f xs) i ≡ Some y → (x : A) × (slice_get xs i ≡ Some x) × (f x ≡ y)
from_get_map f [] i y at = absurd (none-some y at)
from_get_map f (x ∷ xs) zero y at = (x, refl, same_Some (f x) y at)
from_get_map f (x ∷ xs) (suc i) y at = from_get_map f xs i y at

-- what is read behind one item more: it was there before, or is the new one
pub pushed_at : {A : Type 0} (xs : List A) (x : A) (i : ℕ) (y : A) → slice_get (xs ++ x ∷ []) i ≡ Some y → (slice_get xs i ≡ Some y) ⊎ ((i ≡ length xs) × (x ≡ y))
pushed_at [] x zero y at = inr (refl, same_Some x y at)
pushed_at [] x (suc i) y at = absurd (none-some y at)
pushed_at (z ∷ xs) x zero y at = inl at
pushed_at (z ∷ xs) x (suc i) y at = elim (pushed_at xs x i y at) as (λ _. (slice_get xs i ≡ Some y) ⊎ ((suc i ≡ length (z ∷ xs)) × (x ≡ y))) [ inl old ↦ inl old | inr (e, f) ↦ inr (ap (λ (k : ℕ). suc k) e, f) ]

pub get_some : {A : Type 0} (xs : List A) (i : ℕ) → i < length xs → (x : A) × (slice_get xs i ≡ Some x)
get_some [] i lt = absurd (omega (arith, lt))
get_some (x ∷ xs) zero lt = (x, refl)
get_some (x ∷ xs) (suc i) lt = get_some xs i (omega (arith, lt))

-- lists that have the same things at all places
pub same_gets : {A : Type 0} (xs ys : List A) → length xs ≡ length ys → ((i : ℕ) (x : A) → slice_get xs i ≡ Some x → slice_get ys i ≡ Some x) → xs ≡ ys
same_gets [] [] e f = refl
same_gets [] (y ∷ ys) e f = absurd (omega (arith, e))
same_gets (x ∷ xs) [] e f = absurd (omega (arith, e))
same_gets {A} (x ∷ xs) (y ∷ ys) e f =
    ap (λ (z : A). z ∷ xs) (sym (same_Some y x (f 0 x refl))) ∙ ap (λ (zs : List A). y ∷ zs) (same_gets xs ys (omega (arith, e)) (λ i z at. f (suc i) z at))

pub all_gets : {A : Type 0} (P : A → Type 0) (xs : List A) → ((i : ℕ) (x : A) → slice_get xs i ≡ Some x → P x) → AllByRecursion P xs
all_gets P [] f = tt
all_gets P (x ∷ xs) f = (f 0 x refl, all_gets P xs (λ i y at. f (suc i) y at))

pub get_all : {A : Type 0} (P : A → Type 0) (xs : List A) (i : ℕ) (x : A) → AllByRecursion P xs → slice_get xs i ≡ Some x → P x
get_all P [] i x all at = absurd (none-some x at)
get_all P (y ∷ ys) zero x all at = subst P (same_Some y x at) all.0
get_all P (y ∷ ys) (suc i) x all at = get_all P ys i x all.1 at

-- things that stand at all places below a bound make a list
pub listed_below : {A : Type 0} (k : ℕ) (F : ℕ → Option A) → ((i : ℕ) → i < k → (x : A) × (F i ≡ Some x)) → (xs : List A) × (length xs ≡ k) × ((i : ℕ) → i < k → F i ≡ slice_get xs i)
listed_below zero F all = ([], refl, λ i lt. absurd (omega (arith, lt)))
listed_below {A} (suc k) F all =
    let (x, e) = all 0 (omega arith) in
    let (xs, len, gets) = listed_below k (λ i. F (suc i)) (λ i lt. all (suc i) (omega (arith, lt))) in
    (x ∷ xs, ap (λ (n : ℕ). suc n) len, at x xs e gets)
  where
    at : (x : A) (xs : List A) → F 0 ≡ Some x → ((i : ℕ) → i < k → F (suc i) ≡ slice_get xs i) → (i : ℕ) → i < suc k → F i ≡ slice_get (x ∷ xs) i
    at x xs e gets zero lt = e
    at x xs e gets (suc i) lt = gets i (omega (arith, lt))

pub bound_is : (b : Binding) (pin m : ℕ) → bound_at b pin ≡ Some m → slice_get b.pins pin ≡ Some (Some m)
bound_is b pin m e = by_slot (slice_get b.pins pin) refl e
  where
    by_slot : (o : Option (Option ℕ)) → slice_get b.pins pin ≡ o → option_map_or (λ (number : Option ℕ). number) o None ≡ Some m → o ≡ Some (Some m)
    by_slot None f e = absurd (none-some m e)
    by_slot (Some x) f e = ap (λ (y : Option ℕ). Some y) e

pub is_bound : (b : Binding) (pin m : ℕ) → slice_get b.pins pin ≡ Some (Some m) → bound_at b pin ≡ Some m
is_bound b pin m e = ap (λ (o : Option (Option ℕ)). option_map_or (λ (number : Option ℕ). number) o None) e
