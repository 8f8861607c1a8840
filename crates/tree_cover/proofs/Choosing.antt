-- The choice that is taken at a tree has the least cost of all its covers.
use Rattle.std.proofs.Common.{◌≡◌, ℕ, zero, suc, ◌+◌, ◌≤◌, Some, List, [], ◌∷◌, slice_get, Greater, refl, sym, ap, subst, inl, inr, ◌⊎◌, arith}
use Rattle.std.specs.List.{Contains}
use Rattle.std.specs.Ordering.{ordering_then, nat_cmp}
use Rattle.std.specs.Cmp.{nat_cmp_is}
use Rattle.std.specs.declared.cmp.Ordering.{Ordering}
use Rattle.std.proofs.lemmas.Bool.{cases_lt}
use Rattle.subject_tree.specs.Trees.{Tree, Leaf}
use Rattle.tree_cover.specs.Covers.{Tile, Fits, Cover, Covers, leaf_cover, gate_cover, no_pins, more_pins, Least, LeastOfAll, Stands, IsGiven, HaveLeast}

pub contains_get : {A : Type 0} (x : A) (xs : List A) → Contains xs x → (i : ℕ) × (slice_get xs i ≡ Some x)
contains_get x [] (k, lt, e) = absurd (omega (arith, lt))
contains_get x (y ∷ ys) (zero, lt, e) = (0, ap (λ (z : _). Some z) e)
contains_get x (y ∷ ys) (suc k, lt, e) = let (i, at) = contains_get x ys (k, omega (arith, lt), e) in (suc i, at)

pub get_contains : {A : Type 0} (x : A) (xs : List A) (i : ℕ) → slice_get xs i ≡ Some x → Contains xs x
get_contains x [] i at = absurd (let h : ⊥ = cc in h)
get_contains x (y ∷ ys) zero at = (0, omega arith, cc)
get_contains x (y ∷ ys) (suc i) at = let (k, lt, e) = get_contains x ys i at in (suc k, omega (arith, lt), e)

-- covers of trees cost at least their least costs
covers-least : (library : List Tile) (ts : List (Tree ℕ)) (cost least : ℕ) → Covers library ts cost → LeastOfAll library ts least → least ≤ cost
unfolding LeastOfAll
covers-least library ts cost least no_pins e = omega (arith, e)
covers-least library ts cost least (more_pins t us c d first rest) (f, r, one, others, e) =
    omega (arith, e, one.least c first, covers-least library us d r rest others)

-- the least costs of trees are costs of covers
least-covers : (library : List Tile) (ts : List (Tree ℕ)) (cost : ℕ) → LeastOfAll library ts cost → Covers library ts cost
unfolding LeastOfAll
least-covers library [] cost e = subst (Covers library []) (sym e) no_pins
least-covers library (t ∷ ts) cost (f, r, one, others, e) = subst (Covers library (t ∷ ts)) (sym e) (more_pins t ts f r one.cover (least-covers library ts r others))

-- what a cover of a tree is, if it is no leaf's
abbrev Parts : List Tile → Tree ℕ → ℕ → Type 0
Parts library t cost = (tile : Tile) × (bound : List (Tree ℕ)) × (rest : ℕ) × Contains library tile × Fits tile t bound × Covers library bound rest × (cost ≡ tile.area + rest)

cover-parts : (library : List Tile) (t : Tree ℕ) (cost : ℕ) → Cover library t cost → ((place : ℕ) × (t ≡ Leaf place)) ⊎ Parts library t cost
cover-parts library t cost (leaf_cover place) = inl (place, refl)
cover-parts library t cost (gate_cover u tile bound rest there fits covers) = inr (tile, bound, rest, there, fits, covers, refl)

-- a number that does not come after another is at most that
pub at_most : (c d : ℕ) (r : Ordering) → (ordering_then (nat_cmp c d) r ≡ Greater → ⊥) → c ≤ d
at_most c d r first = elim (cases_lt d c) as (λ _. c ≤ d) [
  | inl lt ↦ absurd (first (ap (λ (o : Ordering). ordering_then o r) (sym (nat_cmp_is c d Greater lt))))
  | inr le ↦ le
]

pub given-least : (cmp : Tree ℕ → Tree ℕ → Ordering) (library : List Tile) (t : Tree ℕ) (cost place : ℕ) (bound : List (Tree ℕ)) → ((leaf : ℕ) → t ≡ Leaf leaf → ⊥) → HaveLeast library t → IsGiven cmp library t cost place bound → Least library t cost
given-least cmp library t cost place bound inner have given = record { cover = cover; least = least }
  where
    cover : Cover library t cost
    cover =
        let s = given.stands in
        subst (Cover library t) (sym s.sum) (gate_cover t s.tile bound s.rest (get_contains s.tile library place s.there) s.fits (least-covers library bound s.rest s.cheapest))

    by_parts : (other : ℕ) → Parts library t other → cost ≤ other
    by_parts other (tile, us, rest, there, fits, covers, e) =
        let (q, at) = contains_get tile library there in
        let (r, cheapest) = have tile us there fits in
        let s : Stands library t (tile.area + r) q us = record { tile = tile; there = at; fits = fits; rest = r; cheapest = cheapest; sum = refl } in
        let c : cost ≤ tile.area + r = at_most cost (tile.area + r) _ (given.first (tile.area + r) q us s) in
        omega (arith, c, e, covers-least library us rest r covers cheapest)

    least : (other : ℕ) → Cover library t other → cost ≤ other
    least other c = elim (cover-parts library t other c) as (λ _. cost ≤ other) [
      | inl (leaf, e) ↦ absurd (inner leaf e)
      | inr parts ↦ by_parts other parts
    ]
