-- What the cubes of a list share, listed cube by cube: each with those before it that have two
-- literals in common with it.
use Rattle.std.proofs.Common.{◌≡◌, ◌⊎◌, ℕ, zero, suc, ◌+◌, ◌<◌, ◌≤◌, ◌==◌, ◌↔◌, true, Option, Some, None, List, [], ◌∷◌, ◌++◌, length, get_or, take, flat_map, slice_get, refl, sym, ap, ◌∙◌, subst, inl, inr, arith, take_all, Ordering, Less, Equal, Greater, is_lt, is_gt, nat_cmp, true≢false}
use Rattle.std.proofs.lemmas.List.{take_more, length-take-le}
use Rattle.std.specs.BTreeSet.{BTreeSet, contains}
use Rattle.std.specs.List.{filter_map, list_any}
use Rattle.std.proofs.lemmas.Cmp.{nat_cmp_total, ranked}
use Rattle.std.proofs.lemmas.Map.Views.{btree_set_contains_iff}
use Rattle.alg_div.specs.Cubes.{Has}
use Rattle.alg_div.proofs.Lists.{Has-at, Has-left, Has-right, Has-append}
use Rattle.net_candidates.specs.Candidates.{same_literal, shared}
use Rattle.cover_names.specs.Literals.{Cube, NamedCover}
use Rattle.cover_names.specs.declared.literal.Literal.{Literal}
use Rattle.net_candidates.specs.Listed.{IsSharedOf}
use Rattle.net_candidates.specs.Pairs.{made_by_pairs, shared_of, shared_at, found_with}
use Rattle.net_candidates.specs.Spots.{many, AreTold}
use Rattle.net_candidates.proofs.Counting.{met_least}
use Rattle.net_candidates.proofs.Keeping.{HasFound}
use Rattle.net_candidates.proofs.Made.{mapped_has, has_mapped}
use Rattle.net_candidates.proofs.Twos.{long_made, shared_listed}

-- ---- one more item

module _ {X Y : Type 0} (gives : X → X → Option Y) (last : X) (made : Y) where
  pairs_more : (items : List X) → Has made (made_by_pairs gives (items ++ last ∷ [])) → Has made (made_by_pairs gives items) ⊎ Has made (filter_map (λ other. gives other last) items)
  pairs_more [] m = absurd m
  pairs_more (first ∷ items) m =
      elim (Has-append made (filter_map (gives first) (items ++ last ∷ [])) (made_by_pairs gives (items ++ last ∷ [])) m)
      as (λ _. Has made (made_by_pairs gives (first ∷ items)) ⊎ Has made (filter_map (λ other. gives other last) (first ∷ items))) [
        | inl k ↦ here (mapped_has (gives first) (items ++ last ∷ []) made k)
        | inr n ↦ later (pairs_more items n)
      ]
    where
      later : Has made (made_by_pairs gives items) ⊎ Has made (filter_map (λ other. gives other last) items)
          → Has made (made_by_pairs gives (first ∷ items)) ⊎ Has made (filter_map (λ other. gives other last) (first ∷ items))
      later (inl k) = inl (Has-right made (filter_map (gives first) items) (made_by_pairs gives items) k)
      later (inr k) =
          let p = mapped_has (λ (other : X). gives other last) items made k in
          inr (has_mapped (λ (other : X). gives other last) (first ∷ items) p.0 made (inr p.1) p.2)

      here : ((z : X) × Has z (items ++ last ∷ []) × (gives first z ≡ Some made)) → Has made (made_by_pairs gives (first ∷ items)) ⊎ Has made (filter_map (λ other. gives other last) (first ∷ items))
      here p =
          elim (Has-append p.0 items (last ∷ []) p.1) as (λ _. Has made (made_by_pairs gives (first ∷ items)) ⊎ Has made (filter_map (λ other. gives other last) (first ∷ items))) [
            | inl k ↦ inl (Has-left made (filter_map (gives first) items) (made_by_pairs gives items) (has_mapped (gives first) items p.0 made k p.2))
            | inr k ↦ (elim k as (λ _. Has made (made_by_pairs gives (first ∷ items)) ⊎ Has made (filter_map (λ other. gives other last) (first ∷ items))) [
              | inl e ↦ inr (has_mapped (λ (other : X). gives other last) (first ∷ items) first made (inl refl) (ap (gives first) (sym e) ∙ p.2))
              | inr n ↦ absurd n
            ])
          ]

  more_pairs : (items : List X) → Has made (made_by_pairs gives items) ⊎ Has made (filter_map (λ other. gives other last) items) → Has made (made_by_pairs gives (items ++ last ∷ []))
  more_pairs [] (inl m) = absurd m
  more_pairs [] (inr m) = absurd m
  more_pairs (first ∷ items) (inl m) =
      elim (Has-append made (filter_map (gives first) items) (made_by_pairs gives items) m) as (λ _. Has made (made_by_pairs gives (first ∷ (items ++ last ∷ [])))) [
        | inl k ↦ (let p = mapped_has (gives first) items made k in
            Has-left made (filter_map (gives first) (items ++ last ∷ [])) (made_by_pairs gives (items ++ last ∷ []))
            (has_mapped (gives first) (items ++ last ∷ []) p.0 made (Has-left p.0 items (last ∷ []) p.1) p.2))
        | inr n ↦ Has-right made (filter_map (gives first) (items ++ last ∷ [])) (made_by_pairs gives (items ++ last ∷ [])) (more_pairs items (inl n))
      ]
  more_pairs (first ∷ items) (inr m) = there (mapped_has (λ (other : X). gives other last) (first ∷ items) made m) (λ k. more_pairs items (inr k))
    where
      there : ((z : X) × Has z (first ∷ items) × (gives z last ≡ Some made)) → (Has made (filter_map (λ other. gives other last) items) → Has made (made_by_pairs gives (items ++ last ∷ [])))
          → Has made (made_by_pairs gives (first ∷ (items ++ last ∷ [])))
      there p rest =
          elim p.1 as (λ _. Has made (made_by_pairs gives (first ∷ (items ++ last ∷ [])))) [
            | inl e ↦ Has-left made (filter_map (gives first) (items ++ last ∷ [])) (made_by_pairs gives (items ++ last ∷ []))
                (has_mapped (gives first) (items ++ last ∷ []) last made (Has-right last items (last ∷ []) (inl refl)) (ap (λ (z : X). gives z last) (sym e) ∙ p.2))
            | inr n ↦ Has-right made (filter_map (gives first) (items ++ last ∷ [])) (made_by_pairs gives (items ++ last ∷ []))
                (rest (has_mapped (λ (other : X). gives other last) items p.0 made n p.2))
          ]

-- ---- a cube with those before it

-- each index is listed for each literal at least as often as the cube there has it
abbrev pub AreSpots : (Literal → List ℕ) → List Cube → Type 0
AreSpots told cubes = (at : ℕ) (cube : Cube) → slice_get cubes at ≡ Some cube → (other : Literal) → many (λ literal. same_literal literal other) cube ≤ many (λ place. place == at) (told other)

last_get : {X : Type 0} (xs : List X) (last : X) (at : ℕ) (x : X) → slice_get (xs ++ last ∷ []) at ≡ Some x → (slice_get xs at ≡ Some x) ⊎ ((at ≡ length xs) × (x ≡ last))
last_get [] last zero x e = inr (refl, cc)
last_get [] last (suc at) x e = absurd cc
last_get (y ∷ xs) last zero x e = inl e
last_get {X} (y ∷ xs) last (suc at) x e =
    elim (last_get xs last at x e) as (λ _. (slice_get (y ∷ xs) (suc at) ≡ Some x) ⊎ ((suc at ≡ length (y ∷ xs)) × (x ≡ last))) [
      | inl k ↦ inl k
      | inr k ↦ inr (ap suc k.0, k.1)
    ]

spots_more : (cubes : List Cube) (cube : Cube) (old new : Literal → List ℕ) → AreSpots old cubes → AreTold cube (length cubes) old new → AreSpots new (cubes ++ cube ∷ [])
spots_more cubes cube old new spots told at one e other =
    elim (last_get cubes cube at one e) as (λ _. many (λ literal. same_literal literal other) one ≤ many (λ place. place == at) (new other)) [
      | inl k ↦ omega (arith, spots at one k other, told.still other at)
      | inr k ↦ subst (λ (n : ℕ). many (λ literal. same_literal literal other) one ≤ many (λ place. place == n) (new other)) (sym k.0)
          (subst (λ (x : Cube). many (λ literal. same_literal literal other) x ≤ many (λ place. place == length cubes) (new other)) (sym k.1) (told.here other))
    ]

get_has : {X : Type 0} (xs : List X) (at : ℕ) (x : X) → slice_get xs at ≡ Some x → Has x xs
get_has [] at x e = absurd cc
get_has (y ∷ xs) zero x e = inl cc
get_has (y ∷ xs) (suc at) x e = inr (get_has xs at x e)

has_get : {X : Type 0} (xs : List X) (x : X) → Has x xs → (at : ℕ) × (slice_get xs at ≡ Some x)
has_get [] x m = absurd m
has_get {X} (y ∷ xs) x m =
    elim m as (λ _. (at : ℕ) × (slice_get (y ∷ xs) at ≡ Some x)) [
      | inl e ↦ (0, ap (λ (z : X). Some z) (sym e))
      | inr n ↦ (let p = has_get xs x n in (suc p.0, p.1))
    ]

found : (earlier : List Cube) (cube : Cube) (cover : NamedCover) (at : ℕ) → shared_at earlier cube at ≡ Some cover → Has cover (filter_map (λ other. shared_of other cube) earlier)
found earlier cube cover at e = cases (slice_get earlier at) refl e
  where
    cases : (o : Option Cube) → slice_get earlier at ≡ o → found_with o cube ≡ Some cover → Has cover (filter_map (λ other. shared_of other cube) earlier)
    cases None h k = absurd cc
    cases (Some other) h k = has_mapped (λ (x : Cube). shared_of x cube) earlier other cover (get_has earlier at other h) k

-- some indices include all that are visited twice for a cube
abbrev pub ArePartners : (Literal → List ℕ) → Cube → List ℕ → Type 0
ArePartners told cube places = (at : ℕ) → 2 ≤ many (λ place. place == at) (flat_map told cube) → Has at places

with_earlier : (earlier : List Cube) (cube : Cube) (told : Literal → List ℕ) (places : List ℕ) → AreSpots told earlier → ArePartners told cube places
    → (cover : NamedCover) → Has cover (filter_map (shared_at earlier cube) places) ↔ Has cover (filter_map (λ other. shared_of other cube) earlier)
with_earlier earlier cube told places spots partners cover = (to, from)
  where
    to : Has cover (filter_map (shared_at earlier cube) places) → Has cover (filter_map (λ other. shared_of other cube) earlier)
    to m = let p = mapped_has (shared_at earlier cube) places cover m in found earlier cube cover p.0 p.2

    twice : (one : Cube) (at : ℕ) → slice_get earlier at ≡ Some one → shared_of one cube ≡ Some cover → Has at places
    twice one at place e =
        let two : 2 ≤ many (λ literal. list_any (same_literal literal) cube) one = (long_made (shared one cube) cover e).0 in
        partners at (omega (arith, two, met_least told one at (spots at one place) cube))

    from : Has cover (filter_map (λ other. shared_of other cube) earlier) → Has cover (filter_map (shared_at earlier cube) places)
    from m =
        let p = mapped_has (λ (x : Cube). shared_of x cube) earlier cover m in
        let place = has_get earlier p.0 p.1 in
        has_mapped (shared_at earlier cube) places place.0 cover (twice p.0 place.0 place.1 p.2) (ap (λ (o : Option Cube). found_with o cube) place.1 ∙ p.2)

-- ---- all cubes, one after the other

-- the covers listed for some cubes, and the indices listed under literals
pub record AreListed (cubes : List Cube) (made : List NamedCover) (told : Literal → List ℕ) : Type 0 where
  pub listed : (cover : NamedCover) → Has cover made ↔ Has cover (made_by_pairs shared_of cubes)
  pub spots : AreSpots told cubes

listed_more : (earlier : List Cube) (cube : Cube) (told told_then : Literal → List ℕ) (places : List ℕ) (old new : List NamedCover) → AreListed earlier old told → ArePartners told cube places
    → HasFound (shared_at earlier cube) places old new → AreTold cube (length earlier) told told_then → AreListed (earlier ++ cube ∷ []) new told_then
listed_more earlier cube told told_then places old new before partners put more = record {
  listed = λ cover. (to cover, from cover);
  spots = spots_more earlier cube told told_then before.spots more;
}
  where
    to : (cover : NamedCover) → Has cover new → Has cover (made_by_pairs shared_of (earlier ++ cube ∷ []))
    to cover m =
        more_pairs shared_of cube cover earlier
        (elim ((put cover).0 m) as (λ _. Has cover (made_by_pairs shared_of earlier) ⊎ Has cover (filter_map (λ other. shared_of other cube) earlier)) [
          | inl k ↦ inl ((before.listed cover).0 k)
          | inr k ↦ inr ((with_earlier earlier cube told places before.spots partners cover).0 k)
        ])

    from : (cover : NamedCover) → Has cover (made_by_pairs shared_of (earlier ++ cube ∷ [])) → Has cover new
    from cover m =
        (put cover).1
        (elim (pairs_more shared_of cube cover earlier m) as (λ _. Has cover old ⊎ Has cover (filter_map (shared_at earlier cube) places)) [
          | inl k ↦ inl ((before.listed cover).1 k)
          | inr k ↦ inr ((with_earlier earlier cube told places before.spots partners cover).1 k)
        ])

pub listed_step : (cubes : List Cube) (i : ℕ) (cube : Cube) (told told_then : Literal → List ℕ) (places : List ℕ) (old new : List NamedCover) → i < length cubes → cube ≡ get_or cubes i cube
    → AreListed (take i cubes) old told → ArePartners told cube places → HasFound (shared_at (take i cubes) cube) places old new → AreTold cube i told told_then
    → AreListed (take (i + 1) cubes) new told_then
listed_step cubes i cube told told_then places old new lt is before partners put more =
    subst (λ (xs : List Cube). AreListed xs new told_then) (sym (take_more cubes i cube lt ∙ ap (λ (x : Cube). take i cubes ++ x ∷ []) (sym is)))
    (listed_more (take i cubes) cube told told_then places old new before partners put
    (subst (λ (n : ℕ). AreTold cube n told told_then) (sym (length-take-le i cubes (omega (arith, lt)))) more))

pub listed_all : (cubes : List Cube) (i : ℕ) (made : List NamedCover) (told : Literal → List ℕ) → length cubes ≤ i → AreListed (take i cubes) made told
    → (cover : NamedCover) → Has cover made ↔ IsSharedOf cubes cover
listed_all cubes i made told le all cover =
    let whole = subst (λ (xs : List Cube). AreListed xs made told) (take_all i cubes le) all in
    (λ m. (shared_listed cubes cover).0 ((whole.listed cover).0 m), λ k. (whole.listed cover).1 ((shared_listed cubes cover).1 k))

-- ---- the keys of a set

same_number : (x y : ℕ) → nat_cmp x y ≡ Equal → x ≡ y
same_number x y h = by (nat_cmp x y) refl h
  where
    by : (o : Ordering) → o ≡ nat_cmp x y → o ≡ Equal → x ≡ y
    by Less e k = absurd (true≢false (ap is_lt k))
    by Greater e k = absurd (true≢false (ap is_gt k))
    by Equal e k = ranked x y Equal e

pub among_keys : (set : BTreeSet ℕ) (at : ℕ) → contains nat_cmp set at ≡ true → Has at set.keys
among_keys set at h = let p = (btree_set_contains_iff nat_cmp_total same_number set at).0 h in subst (λ (x : ℕ). Has x set.keys) p.2 (Has-at set.keys p.0 at p.1)
