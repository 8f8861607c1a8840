-- What a set gains of what each of some cubes shares with each of some others.
use Rattle.std.proofs.Common.{◌≡◌, ◌⊎◌, ◌↔◌, ℕ, ◌+◌, ◌<◌, ◌≤◌, Option, Some, List, [], ◌∷◌, ◌++◌, length, get_or, take, sym, ap, ◌∙◌, subst, inl, inr, take_all}
use Rattle.std.proofs.lemmas.List.{take_more, append-nil}
use Rattle.std.proofs.lemmas.Grind.{flat_map-append}
use Rattle.std.specs.List.{filter_map}
use Rattle.alg_div.specs.Cubes.{Has}
use Rattle.alg_div.proofs.Lists.{Has-left, Has-right, Has-append}
use Rattle.net_candidates.specs.Candidates.{shared}
use Rattle.cover_names.specs.Literals.{Cube, NamedCover}
use Rattle.net_candidates.specs.Listed.{IsSharedOf, IsSharedWith}
use Rattle.net_candidates.specs.Pairs.{shared_of, shared_by_each}
use Rattle.net_candidates.proofs.Keeping.{HasFound, found_more}
use Rattle.net_candidates.proofs.Made.{mapped_has, has_mapped, flat_has, has_flat}
use Rattle.net_candidates.proofs.Twos.{long_made, long_is}

-- what a set has after it gained some covers
abbrev pub HasGained : List NamedCover → List NamedCover → List NamedCover → Type 0
HasGained added old new = (cover : NamedCover) → Has cover new ↔ (Has cover old ⊎ Has cover added)

gained_more : (added more old mid new : List NamedCover) → HasGained added old mid → HasGained more mid new → HasGained (added ++ more) old new
gained_more added more old mid new before then cover = (
  λ m.
      elim ((then cover).0 m) as (λ _. Has cover old ⊎ Has cover (added ++ more)) [
        | inl k ↦ (elim ((before cover).0 k) as (λ _. Has cover old ⊎ Has cover (added ++ more)) [ inl n ↦ inl n | inr n ↦ inr (Has-left cover added more n) ])
        | inr k ↦ inr (Has-right cover added more k)
      ],
  λ k.
      elim k as (λ _. Has cover new) [
        | inl m ↦ (then cover).1 (inl ((before cover).1 (inl m)))
        | inr m ↦ (elim (Has-append cover added more m) as (λ _. Has cover new) [ inl n ↦ (then cover).1 (inl ((before cover).1 (inr n))) | inr n ↦ (then cover).1 (inr n) ])
      ],
)

-- ---- one cube with others

pub found_step : (cube : Cube) (others : List Cube) (i : ℕ) (other : Cube) (found : Option NamedCover) (old mid new : List NamedCover) → i < length others → other ≡ get_or others i other
    → found ≡ shared_of cube other → HasFound (shared_of cube) (take i others) old mid → ((cover : NamedCover) → Has cover new ↔ (Has cover mid ⊎ (found ≡ Some cover)))
    → HasFound (shared_of cube) (take (i + 1) others) old new
found_step cube others i other found old mid new lt is e before put =
    subst (λ (xs : List Cube). HasFound (shared_of cube) xs old new) (sym (take_more others i other lt ∙ ap (λ (x : Cube). take i others ++ x ∷ []) (sym is)))
    (found_more (shared_of cube) (take i others) other found old mid new e before put)

pub found_all : (cube : Cube) (others : List Cube) (i : ℕ) (old new : List NamedCover) → length others ≤ i → HasFound (shared_of cube) (take i others) old new
    → HasFound (shared_of cube) others old new
found_all cube others i old new le k = subst (λ (xs : List Cube). HasFound (shared_of cube) xs old new) (take_all i others le) k

-- ---- all cubes

each_push : (others cubes : List Cube) (cube : Cube) → shared_by_each others (cubes ++ cube ∷ []) ≡ shared_by_each others cubes ++ filter_map (shared_of cube) others
each_push others cubes cube =
    flat_map-append (λ (one : Cube). filter_map (shared_of one) others) cubes (cube ∷ [])
    ∙ ap (λ (rest : List NamedCover). shared_by_each others cubes ++ rest) (append-nil (filter_map (shared_of cube) others))

pub each_step : (others cubes : List Cube) (i : ℕ) (cube : Cube) (old mid new : List NamedCover) → i < length cubes → cube ≡ get_or cubes i cube
    → HasGained (shared_by_each others (take i cubes)) old mid → HasFound (shared_of cube) others mid new → HasGained (shared_by_each others (take (i + 1) cubes)) old new
each_step others cubes i cube old mid new lt is before put =
    let same : take (i + 1) cubes ≡ take i cubes ++ cube ∷ [] = take_more cubes i cube lt ∙ ap (λ (x : Cube). take i cubes ++ x ∷ []) (sym is) in
    subst (λ (added : List NamedCover). HasGained added old new) (sym (ap (shared_by_each others) same ∙ each_push others (take i cubes) cube))
    (gained_more (shared_by_each others (take i cubes)) (filter_map (shared_of cube) others) old mid new before put)

pub each_all : (others cubes : List Cube) (i : ℕ) (old new : List NamedCover) → length cubes ≤ i → HasGained (shared_by_each others (take i cubes)) old new
    → HasGained (shared_by_each others cubes) old new
each_all others cubes i old new le k = subst (λ (xs : List Cube). HasGained (shared_by_each others xs) old new) (take_all i cubes le) k

-- ---- the result

with_others : (cubes others : List Cube) (cover : NamedCover) → Has cover (shared_by_each others cubes) → IsSharedWith cubes others cover
with_others cubes others cover m =
    let p = flat_has (λ (cube : Cube). filter_map (shared_of cube) others) cubes cover m in
    let q = mapped_has (shared_of p.0) others cover p.2 in
    let parts = long_made (shared p.0 q.0) cover q.2 in
    record { one = p.0; other = q.0; pair = inl (p.1, q.1); two = parts.0; is = parts.1 }

among_cubes : (cubes others : List Cube) (cover : NamedCover) → IsSharedOf cubes cover → IsSharedWith cubes others cover
among_cubes cubes others cover k = record { one = k.one; other = k.other; pair = inr k.pair; two = k.two; is = k.is }

pub shared_with_is : (cubes others : List Cube) (old new : List NamedCover) → ((cover : NamedCover) → Has cover old ↔ IsSharedOf cubes cover)
    → HasGained (shared_by_each others cubes) old new → (cover : NamedCover) → Has cover new ↔ IsSharedWith cubes others cover
shared_with_is cubes others old new before put cover = (
  λ m.
      elim ((put cover).0 m) as (λ _. IsSharedWith cubes others cover) [
        | inl k ↦ among_cubes cubes others cover ((before cover).0 k)
        | inr k ↦ with_others cubes others cover k
      ],
  λ k.
      elim k.pair as (λ _. Has cover new) [
        | inl p ↦ (put cover).1
            (inr (has_flat (λ (cube : Cube). filter_map (shared_of cube) others) cubes k.one cover p.0
            (has_mapped (shared_of k.one) others k.other cover p.1 (long_is (shared k.one k.other) cover k.two k.is))))
        | inr p ↦ (put cover).1 (inl ((before cover).1 (record { one = k.one; other = k.other; pair = p; two = k.two; is = k.is })))
      ],
)
