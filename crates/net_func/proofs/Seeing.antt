-- Changes that are observed, one after the other.
use Rattle.std.proofs.Common.{◌≡◌, ℕ, zero, suc, ◌+◌, ◌<◌, Bool, true, false, not, ◌&&◌, ◌||◌, Option, Some, None, List, [], ◌∷◌, length, take, get_or, slice_get, map, refl, sym, ap, ap₂, ◌∙◌, subst, inl, inr, ◌⊎◌, arith}
use Rattle.std.proofs.Math.Bool.{or_assoc}
use Rattle.func_core.specs.Trees.{BooleanFunction, Tree, eval, differ, constant}
use Rattle.func_core.specs.Numbers.{Means, IsBig, Stays}
use Rattle.func_core.specs.declared.functions.Func.{Func}
use Rattle.func_core.proofs.Meanings.{IsBig-same}
use Rattle.net_func.specs.Numbered.{computed}
use Rattle.net_func.specs.Signals.{seen_among}
use Rattle.net_func.specs.Changes.{free_bit, changed_by, shown_by, FreeStands, ChangeStands, ChangesStand, HasBigChange}
use Rattle.net_func.specs.declared.seen.Change.{Change}
use Rattle.net_func.proofs.Making.{same_computed, all_at, IsMaking}

-- one more change
seen-suc : (changes : List BooleanFunction) (k : ℕ) (d : BooleanFunction) (point : ℕ → Bool)
    → k < length changes
    → seen_among (take (suc k) changes) point ≡ (seen_among (take k changes) point || get_or changes
    k d point)
seen-suc [] k d point low = absurd (omega arith)
seen-suc (f ∷ changes) zero d point low = flat (f point)
  where
    flat : (b : Bool) → (b || false) ≡ b
    flat true = refl
    flat false = refl
seen-suc (f ∷ changes) (suc k) d point low =
    ap (λ (b : Bool). f point || b) (seen-suc changes k d point (omega arith))
    ∙ sym (or_assoc (f point) (seen_among (take k changes) point) (get_or changes k d point))

mapped_at : (f : Change → BooleanFunction) (changes : List Change) (k : ℕ) (change : Change) (d :
    BooleanFunction)
    → k < length changes → change ≡ get_or changes k change → get_or (map f changes) k d ≡ f change
mapped_at f [] k change d low is = absurd (omega arith)
mapped_at f (first ∷ changes) zero change d low is = ap f (sym is)
mapped_at f (first ∷ changes) (suc k) change d low is = mapped_at f changes k change d (omega arith)
    is

pub mapped_length : (f : Change → BooleanFunction) (changes : List Change) → length (map f changes)
    ≡ length changes
mapped_length f [] = refl
mapped_length f (first ∷ changes) = ap (λ (n : ℕ). suc n) (mapped_length f changes)

pub seen-more : (f : Change → BooleanFunction) (changes : List Change) (k : ℕ) (change : Change)
    (point : ℕ → Bool) → k < length changes → change ≡ get_or changes k change
    → seen_among (take (k + 1) (map f changes)) point
    ≡ (seen_among (take k (map f changes)) point || f change point)
seen-more f changes k change point low is =
    let next : suc k ≡ k + 1 = omega arith in
    let long : length (map f changes) ≡ length changes = mapped_length f changes in
    ap (λ (n : ℕ). seen_among (take n (map f changes)) point) (sym next)
    ∙ seen-suc (map f changes) k (f change) point (omega (arith, long, low))
    ∙ ap (λ (g : BooleanFunction). seen_among (take k (map f changes)) point || g point)
    (mapped_at f changes k change (f change) low is)

-- an item within a list is the one at its index, whatever the default outside is
pub item_is : (changes : List Change) (k : ℕ) (d : Change) → k < length changes
    → get_or changes k d ≡ get_or changes k (get_or changes k d)
item_is [] k d low = absurd (omega arith)
item_is (first ∷ changes) zero d low = refl
item_is (first ∷ changes) (suc k) d low = item_is changes k d (omega arith)

pub found_at : (changes : List Change) (k : ℕ) (change : Change) → k < length changes
    → change ≡ get_or changes k change → slice_get changes k ≡ Some change
found_at [] k change low is = absurd (omega arith)
found_at (first ∷ changes) zero change low is = ap (λ (c : Change). Some c) (sym is)
found_at (first ∷ changes) (suc k) change low is = found_at changes k change (omega arith) is

pub take-whole : {X : Type 0} (xs : List X) (n : ℕ) → n ≡ length xs → take n xs ≡ xs
take-whole {X = X} [] zero e = refl
take-whole {X = X} [] (suc n) e = refl
take-whole {X = X} (x ∷ xs) zero e = absurd (omega arith)
take-whole {X = X} (x ∷ xs) (suc n) e = ap (λ (rest : List X). x ∷ rest) (take-whole xs n
    (omega arith))

pub stands_at : {S : Type 0} (holds : S → ℕ → Type 0) (state : S) (changes : List Change) (k : ℕ)
    (change : Change)
    → ChangesStand holds state changes → k < length changes → change ≡ get_or changes k change
    → ChangeStands holds state change
stands_at holds state changes k change stand low is =
    subst (λ (c : Change). ChangeStands holds state c) (sym is)
    (all_at (ChangeStands holds state) changes k change stand low)

module _ {S : Type 0} (holds : S → ℕ → Type 0) (tree : S → ℕ → Tree) (limit : S → ℕ) where
  pub free_stays : (before now : S) (free : Option Func) → Stays holds tree limit before now
      → FreeStands holds before free → FreeStands holds now free
  free_stays before now None stays stood = tt
  free_stays before now (Some f) stays stood = (stays.kept f.0 stood).0

  pub change_stays : (before now : S) (change : Change) → Stays holds tree limit before now
      → ChangeStands holds before change → ChangeStands holds now change
  change_stays before now change stays stood = record {
    low = (stays.kept change.low.0 stood.low).0;
    high = (stays.kept change.high.0 stood.high).0;
    free = free_stays before now change.free stays stood.free;
  }

  pub free_same : (before now : S) (free : Option Func) → Stays holds tree limit before now
      → FreeStands holds before free → (point : ℕ → Bool)
      → free_bit tree now free point ≡ free_bit tree before free point
  free_same before now None stays stood point = refl
  free_same before now (Some f) stays stood point =
      same_computed holds tree limit before now f stays stood point

  pub changed_same : (before now : S) (change : Change) → Stays holds tree limit before now
      → ChangeStands holds before change → (point : ℕ → Bool)
      → changed_by tree now change point ≡ changed_by tree before change point
  changed_same before now change stays stood point =
      ap₂ (λ (a b : Bool). differ a b)
      (same_computed holds tree limit before now change.low stays stood.low point)
      (same_computed holds tree limit before now change.high stays stood.high point)

  pub shown_same : (before now : S) (change : Change) → Stays holds tree limit before now
      → ChangeStands holds before change → (point : ℕ → Bool)
      → shown_by tree now change point ≡ shown_by tree before change point
  shown_same before now change stays stood point =
      ap₂ (λ (a b : Bool). not a && b) (free_same before now change.free stays stood.free point)
      (changed_same before now change stays stood point)

  -- a change by its number, if it is not don't-care
  pub outside_point : (before now : S) (change : Change) (changed : Func)
      → Stays holds tree limit before now → FreeStands holds before change.free
      → Means holds tree limit now changed.0 (changed_by tree before change) → (point : ℕ → Bool)
      → (not (free_bit tree now change.free point) && computed tree now changed point)
      ≡ shown_by tree before change point
  outside_point before now change changed stays stood means point =
      ap₂ (λ (a b : Bool). not a && b) (free_same before now change.free stays stood point)
      (means.is_tree.computes point)

  -- what was observed before, or is shown
  pub either_point : (before now : S) (seen shown : Func) (f : BooleanFunction)
      → Stays holds tree limit before now → holds before seen.0
      → Means holds tree limit now shown.0 f → (point : ℕ → Bool)
      → (computed tree now seen point || computed tree now shown point)
      ≡ (computed tree before seen point || f point)
  either_point before now seen shown f stays stood means point =
      ap₂ (λ (a b : Bool). a || b) (same_computed holds tree limit before now seen stays stood
      point)
      (means.is_tree.computes point)

  -- one more change is observed
  pub more_point : (before now : S) (seen : Func) (changes : List Change) (k : ℕ) (change : Change)
      → IsMaking holds tree limit before now seen (seen_among
      (take k (map (shown_by tree before) changes)))
      → ChangesStand holds before changes → k < length changes → change ≡ get_or changes k change
      → (point : ℕ → Bool) → (computed tree now seen point || shown_by tree now change point)
      ≡ seen_among (take (k + 1) (map (shown_by tree before) changes)) point
  more_point before now seen changes k change making stand low is point =
      ap₂ (λ (a b : Bool). a || b) (making.means.is_tree.computes point)
      (shown_same before now change making.stays (stands_at holds before changes k change stand low
      is) point)
      ∙ sym (seen-more (shown_by tree before) changes k change point low is)

  pub none_seen : (before now : S) (seen : Func) (changes : List Change) → Stays holds tree limit
      before now
      → Means holds tree limit now seen.0 (constant false)
      → IsMaking holds tree limit before now seen (seen_among
      (take 0 (map (shown_by tree before) changes)))
  none_seen before now seen changes stays means = record { stays = stays; means = means }

  -- why the sum of changes is refused
  pub big_change : (before now : S) (seen : Func) (changes : List Change) (k : ℕ) (change : Change)
      → IsMaking holds tree limit before now seen (seen_among
      (take k (map (shown_by tree before) changes)))
      → ChangesStand holds before changes → k < length changes → change ≡ get_or changes k change
      → IsBig (limit now) (changed_by tree now change)
      ⊎ (IsBig (limit now) (shown_by tree now change)
      ⊎ IsBig (limit now) (λ point. computed tree now seen point || shown_by tree now change point))
      → HasBigChange tree before (limit before) changes
  big_change before now seen changes k change making stand low is (inl big) =
      inl (k, change, found_at changes k change low is, inl (moved big))
    where
      moved : IsBig (limit now) (changed_by tree now change) → IsBig (limit before) (changed_by tree
          before change)
      moved big =
          IsBig-same (limit before) (changed_by tree now change) (changed_by tree before change)
          (subst (λ (l : ℕ). IsBig l (changed_by tree now change)) making.stays.same big)
          (changed_same before now change making.stays (stands_at holds before changes k change
          stand low is))
  big_change before now seen changes k change making stand low is (inr (inl big)) =
      inl (k, change, found_at changes k change low is, inr (moved big))
    where
      moved : IsBig (limit now) (shown_by tree now change) → IsBig (limit before) (shown_by tree
          before change)
      moved big =
          IsBig-same (limit before) (shown_by tree now change) (shown_by tree before change)
          (subst (λ (l : ℕ). IsBig l (shown_by tree now change)) making.stays.same big)
          (shown_same before now change making.stays (stands_at holds before changes k change stand
          low is))
  big_change before now seen changes k change making stand low is (inr (inr big)) =
      inr (
        k + 1,
        IsBig-same (limit before) (λ point. computed tree now seen point || shown_by tree now change
            point)
            (seen_among (take (k + 1) (map (shown_by tree before) changes)))
            (subst (λ (l : ℕ). IsBig l (λ point. computed tree now seen point || shown_by tree now
            change point))
            making.stays.same big)
            (more_point before now seen changes k change making stand low is),
      )

-- nothing changes if both functions have one number
pub unchanged_point : {S : Type 0} (tree : S → ℕ → Tree) (state : S) (change : Change)
    → change.low.0 ≡ change.high.0 → (b : Bool) (point : ℕ → Bool)
    → b ≡ (b || shown_by tree state change point)
unchanged_point tree state change same b point =
    stays b (not (free_bit tree state change.free point)) (computed tree state change.low point)
    ∙ ap (λ (n : ℕ). b || (not (free_bit tree state change.free point)
    && differ (computed tree state change.low point) (eval (tree state n) point))) same
  where
    stays : (a d v : Bool) → a ≡ (a || (d && differ v v))
    stays true d v = refl
    stays false true true = refl
    stays false true false = refl
    stays false false v = refl
