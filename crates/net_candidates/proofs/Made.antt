-- The items of a list that is made of each two items of another one, or of each of its items.
use Rattle.std.proofs.Common.{◌≡◌, Option, Some, None, List, [], ◌∷◌, ◌++◌, flat_map, refl, sym, ap, ◌∙◌, subst, inl, inr}
use Rattle.std.specs.List.{cons_option, filter_map}
use Rattle.alg_div.specs.Cubes.{Has}
use Rattle.alg_div.proofs.Lists.{Has-left, Has-right, Has-append}
use Rattle.net_candidates.specs.Candidates.{ArePair}
use Rattle.net_candidates.proofs.Sums.{has_split}
use Rattle.net_candidates.specs.Pairs.{made_by_pairs}

-- ---- what some items make

pub mapped_has : {X Y : Type 0} (f : X → Option Y) (xs : List X) (y : Y) → Has y (filter_map f xs) → (x : X) × Has x xs × (f x ≡ Some y)
mapped_has f [] y m = absurd m
mapped_has {X} {Y} f (x ∷ xs) y m = cases (f x) refl (mapped_has f xs y) m
  where
    cases : (found : Option Y) → f x ≡ found → (Has y (filter_map f xs) → ((z : X) × Has z xs × (f z ≡ Some y))) → Has y (cons_option found (filter_map f xs))
        → (z : X) × Has z (x ∷ xs) × (f z ≡ Some y)
    cases None e rest m = let p = rest m in (p.0, inr p.1, p.2)
    cases (Some made) e rest m =
        elim m as (λ _. (z : X) × Has z (x ∷ xs) × (f z ≡ Some y)) [
          | inl h ↦ (x, inl refl, e ∙ ap (λ (v : Y). Some v) (sym h))
          | inr n ↦ (let p = rest n in (p.0, inr p.1, p.2))
        ]

kept : {Y : Type 0} (found : Option Y) (ys : List Y) (y : Y) → Has y ys → Has y (cons_option found ys)
kept None ys y m = m
kept (Some made) ys y m = inr m

pub has_mapped : {X Y : Type 0} (f : X → Option Y) (xs : List X) (x : X) (y : Y) → Has x xs → f x ≡ Some y → Has y (filter_map f xs)
has_mapped f [] x y m e = absurd m
has_mapped {X} {Y} f (first ∷ xs) x y m e =
    elim m as (λ _. Has y (cons_option (f first) (filter_map f xs))) [
      | inl h ↦ subst (λ (found : Option Y). Has y (cons_option found (filter_map f xs))) (sym e ∙ ap f h) (inl refl)
      | inr n ↦ kept (f first) (filter_map f xs) y (has_mapped f xs x y n e)
    ]

pub flat_has : {X Y : Type 0} (f : X → List Y) (xs : List X) (y : Y) → Has y (flat_map f xs) → (x : X) × Has x xs × Has y (f x)
flat_has f [] y m = absurd m
flat_has {X} f (first ∷ xs) y m =
    elim (Has-append y (f first) (flat_map f xs) m) as (λ _. (x : X) × Has x (first ∷ xs) × Has y (f x)) [
      | inl k ↦ (first, inl refl, k)
      | inr n ↦ (let p = flat_has f xs y n in (p.0, inr p.1, p.2))
    ]

pub has_flat : {X Y : Type 0} (f : X → List Y) (xs : List X) (x : X) (y : Y) → Has x xs → Has y (f x) → Has y (flat_map f xs)
has_flat f [] x y m k = absurd m
has_flat {X} f (first ∷ xs) x y m k =
    elim m as (λ _. Has y (f first ++ flat_map f xs)) [
      | inl e ↦ Has-left y (f first) (flat_map f xs) (subst (λ (z : X). Has y (f z)) e k)
      | inr n ↦ Has-right y (f first) (flat_map f xs) (has_flat f xs x y n k)
    ]

-- ---- what each two items make

pub record IsMadeOf {X Y : Type 0} (gives : X → X → Option Y) (items : List X) (made : Y) : Type 0 where
  pub one : X
  pub other : X
  pub pair : ArePair items one other
  pub is : gives one other ≡ Some made

pub pairs_made : {X Y : Type 0} (gives : X → X → Option Y) (items : List X) (made : Y) → Has made (made_by_pairs gives items) → IsMadeOf gives items made
pairs_made gives [] made m = absurd m
pairs_made {X} {Y} gives (first ∷ items) made m =
    elim (Has-append made (filter_map (gives first) items) (made_by_pairs gives items) m) as (λ _. IsMadeOf gives (first ∷ items) made) [
      | inl k ↦ here (mapped_has (gives first) items made k)
      | inr n ↦ later (pairs_made gives items made n)
    ]
  where
    here : ((z : X) × Has z items × (gives first z ≡ Some made)) → IsMadeOf gives (first ∷ items) made
    here p =
        let parts = has_split p.0 items p.1 in
        record {
          one = first;
          other = p.0;
          pair = record { before = []; between = parts.0; after = parts.1; among = ap (λ (xs : List X). first ∷ xs) parts.2 };
          is = p.2;
        }

    later : IsMadeOf gives items made → IsMadeOf gives (first ∷ items) made
    later k = record {
      one = k.one;
      other = k.other;
      pair = record { before = first ∷ k.pair.before; between = k.pair.between; after = k.pair.after; among = ap (λ (xs : List X). first ∷ xs) k.pair.among };
      is = k.is;
    }

made_at : {X Y : Type 0} (gives : X → X → Option Y) (before between after : List X) (one other : X) (made : Y) → gives one other ≡ Some made
    → Has made (made_by_pairs gives (before ++ one ∷ (between ++ other ∷ after)))
made_at gives [] between after one other made e =
    Has-left made (filter_map (gives one) (between ++ other ∷ after)) (made_by_pairs gives (between ++ other ∷ after))
    (has_mapped (gives one) (between ++ other ∷ after) other made (Has-right other between (other ∷ after) (inl refl)) e)
made_at gives (first ∷ before) between after one other made e =
    Has-right made (filter_map (gives first) (before ++ one ∷ (between ++ other ∷ after))) (made_by_pairs gives (before ++ one ∷ (between ++ other ∷ after)))
    (made_at gives before between after one other made e)

pub made_pairs : {X Y : Type 0} (gives : X → X → Option Y) (items : List X) (made : Y) → IsMadeOf gives items made → Has made (made_by_pairs gives items)
made_pairs {X} gives items made k =
    subst (λ (xs : List X). Has made (made_by_pairs gives xs)) (sym k.pair.among) (made_at gives k.pair.before k.pair.between k.pair.after k.one k.other made k.is)
