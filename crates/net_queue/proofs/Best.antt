-- The first key of an order that passes a test is the best of those that pass.
use Rattle.std.proofs.Common.{◌≡◌, ◌⊎◌, inl, inr, List, [], ◌∷◌, ◌++◌, map, Option, Some, Bor, Ordering, Less, Equal, Greater, refl, sym, ap, ◌∙◌, subst, arith}
use Rattle.std.specs.Cmp.{IsTotalOrder}
use Rattle.std.specs.Iterator.{Yields}
use Rattle.std.specs.List.{AllByRecursion, Contains}
use Rattle.std.specs.List.Sorted.{IsStrictlySortedBy}
use Rattle.std.specs.Map.Iter.{deref, TakesFirst}
use Rattle.std.specs.Ordering.{ordering_then, ordering_reverse}
use Rattle.std.proofs.lemmas.Cmp.{tied_itself}
use Rattle.std.proofs.lemmas.List.Elements.{All-contains, All-from_recursion, Contains-append_cases, Contains-append_right, Contains-push_cases}
use Rattle.std.proofs.lemmas.Map.Iter.{rest_more, rest_so_far}
use Rattle.net_queue.specs.Queue.{ranked_cmp, AreRanked, IsBest}

-- ---- members of lists

all_at : {X : Type 0} (P : X → Type 0) (xs : List X) (x : X) → AllByRecursion P xs → Contains xs x → P x
all_at P xs x all has = All-contains P xs x (All-from_recursion P xs all) has

-- an item of a list is its first one, or comes after it
ahead : {X : Type 0} (first : X) (xs : List X) (x : X) → Contains (first ∷ xs) x → (x ≡ first) ⊎ Contains xs x
ahead first xs x has =
    elim (Contains-append_cases (first ∷ []) xs x has) as (λ _. (x ≡ first) ⊎ Contains xs x) [
      | inl h ↦ elim (Contains-push_cases [] first x h) as (λ _. (x ≡ first) ⊎ Contains xs x) [ inl none ↦ absurd (omega (arith, none.1)) | inr e ↦ inl (sym e) ]
      | inr h ↦ inr h
    ]

middle : {X : Type 0} (xs : List X) (x : X) (ys : List X) → Contains (xs ++ x ∷ ys) x
middle xs x ys = Contains-append_right xs (x ∷ ys) x (0, omega arith, refl)

-- in a strictly rising list an item is less than all items after it
behind : {X : Type 0} (cmp : X → X → Ordering) (xs : List X) (x : X) (ys : List X) → IsStrictlySortedBy cmp (xs ++ x ∷ ys) → AllByRecursion (λ y. cmp x y ≡ Less) ys
unfolding IsStrictlySortedBy
behind cmp [] x ys rises = rises.0
behind cmp (first ∷ xs) x ys rises = behind cmp xs x ys rises.1

less_told : (one other : Ordering) → ordering_then one other ≡ Less → (one ≡ Less) ⊎ ((one ≡ Equal) × (other ≡ Less))
less_told Less other h = inl refl
less_told Equal other h = inr (refl, h)
less_told Greater other h = absurd cc

turned : {X : Type 0} {cmp : X → X → Ordering} → IsTotalOrder cmp → (one other : X) → cmp one other ≡ Less → cmp other one ≡ Less → ⊥
turned {X} {cmp} total one other h k =
    let both : Less ≡ Greater = sym k ∙ (total.antisymm other one ∙ ap ordering_reverse h) in
    absurd cc

module _ {K R : Type 0} {rank_cmp : R → R → Ordering} {key_cmp : K → K → Ordering} (rank_total : IsTotalOrder rank_cmp) (key_total : IsTotalOrder key_cmp) (ranks : K → Option R) (Passes : K → Type 0) where
  -- none of some keys passes
  abbrev Fail : List (R × K) → Type 0
  Fail ranked = AllByRecursion (λ (one : R × K). Passes one.1 → ⊥) ranked

  none_best : (ranked : List (R × K)) → AreRanked rank_cmp key_cmp ranks ranked → Fail ranked → (key : K) (rank : R) → Passes key → ranks key ≡ Some rank → ⊥
  none_best ranked are fail key rank passes has = all_at (λ (one : R × K). Passes one.1 → ⊥) ranked (rank, key) fail (are.all rank key has) passes

  module _ (before : List (R × K)) (found : R × K) (after : List (R × K)) (are : AreRanked rank_cmp key_cmp ranks (before ++ found ∷ after)) (fail : Fail before) where
    -- a key that passes is the one found, or comes after it
    stands : (key : K) (rank : R) → Passes key → ranks key ≡ Some rank → ((rank, key) ≡ found) ⊎ (ranked_cmp rank_cmp key_cmp found (rank, key) ≡ Less)
    stands key rank passes has =
        elim (Contains-append_cases before (found ∷ after) (rank, key) (are.all rank key has)) as (λ _. ((rank, key) ≡ found) ⊎ (ranked_cmp rank_cmp key_cmp found (rank, key) ≡ Less)) [
          | inl there ↦ absurd (all_at (λ (one : R × K). Passes one.1 → ⊥) before (rank, key) fail there passes)
          | inr there ↦ elim (ahead found after (rank, key) there) as (λ _. ((rank, key) ≡ found) ⊎ (ranked_cmp rank_cmp key_cmp found (rank, key) ≡ Less)) [
            | inl same ↦ inl same
            | inr later ↦ inr (all_at (λ (one : R × K). ranked_cmp rank_cmp key_cmp found one ≡ Less) after (rank, key) (behind (ranked_cmp rank_cmp key_cmp) before found after are.rise) later)
          ]
        ]

    no_lesser : (key : K) (rank : R) → Passes key → ranks key ≡ Some rank → rank_cmp rank found.0 ≡ Less → ⊥
    no_lesser key rank passes has less =
        elim (stands key rank passes has) as (λ _. ⊥) [
          | inl same ↦ (let both : Less ≡ Equal = sym less ∙ (ap (λ (one : R × K). rank_cmp one.0 found.0) same ∙ tied_itself rank_total found.0) in absurd cc)
          | inr below ↦ elim (less_told (rank_cmp found.0 rank) (key_cmp found.1 key) below) as (λ _. ⊥) [
            | inl h ↦ turned rank_total rank found.0 less h
            | inr h ↦ (let both : Less ≡ Equal = sym less ∙ (rank_total.antisymm rank found.0 ∙ ap ordering_reverse h.0) in absurd cc)
          ]
        ]

    no_earlier : (key : K) → Passes key → ranks key ≡ Some found.0 → key_cmp key found.1 ≡ Less → ⊥
    no_earlier key passes has less =
        elim (stands key found.0 passes has) as (λ _. ⊥) [
          | inl same ↦ (let both : Less ≡ Equal = sym less ∙ (ap (λ (one : R × K). key_cmp one.1 found.1) same ∙ tied_itself key_total found.1) in absurd cc)
          | inr below ↦ elim (less_told (rank_cmp found.0 found.0) (key_cmp found.1 key) below) as (λ _. ⊥) [
            | inl h ↦ turned rank_total found.0 found.0 h h
            | inr h ↦ turned key_total key found.1 less h.1
          ]
        ]

    first_best : IsBest rank_cmp key_cmp ranks Passes found.1
    first_best = record {
      rank = found.0;
      here = are.only found.0 found.1 (middle before found after);
      no_lesser = no_lesser;
      no_earlier = no_earlier;
    }

  fail_all : (yielded : List (Bor (R × K))) → AllByRecursion (λ (one : Bor (R × K)). Passes one.now.1 → ⊥) yielded → Fail (map deref yielded)
  fail_all [] fail = tt
  fail_all (one ∷ yielded) fail = (fail.0, fail_all yielded fail.1)

  -- a loop over an order that reaches a key, and one that reaches the end
  pub turn_best : (ranked : List (R × K)) → AreRanked rank_cmp key_cmp ranks ranked → (yielded : List (Bor (R × K))) (found : R × K) (rest : List (R × K)) → ranked ≡ map deref yielded ++ found ∷ rest
      → AllByRecursion (λ (one : Bor (R × K)). Passes one.now.1 → ⊥) yielded → IsBest rank_cmp key_cmp ranks Passes found.1
  turn_best ranked are yielded found rest split fail = first_best (map deref yielded) found rest (subst (AreRanked rank_cmp key_cmp ranks) split are) (fail_all yielded fail)

  pub end_none : (ranked : List (R × K)) → AreRanked rank_cmp key_cmp ranks ranked → (yielded : List (Bor (R × K))) → ranked ≡ map deref yielded
      → AllByRecursion (λ (one : Bor (R × K)). Passes one.now.1 → ⊥) yielded → (key : K) (rank : R) → Passes key → ranks key ≡ Some rank → ⊥
  end_none ranked are yielded whole fail = none_best (map deref yielded) (subst (AreRanked rank_cmp key_cmp ranks) whole are) (fail_all yielded fail)

-- the pairs that a loop over an order has yielded, the next one, and those after it
pub order_split : {X : Type 0} (ranked start left rest : List X) (yielded : List (Bor X)) (next : Option (Bor X)) (one : Bor X) → start ≡ ranked → Yields (TakesFirst deref) start yielded left → next ≡ Some one
    → TakesFirst deref left next rest → ranked ≡ map deref yielded ++ one.now ∷ rest
order_split ranked start left rest yielded next one begins yields is takes =
    sym begins ∙ rest_so_far deref yielded start left yields ∙ ap (λ tail. map deref yielded ++ tail) (rest_more deref left rest next one is takes)
