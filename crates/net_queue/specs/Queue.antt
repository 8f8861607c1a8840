-- A queue as contracts see it: the values of its keys, their ranks, and the keys in the order of
-- their ranks. Source: Cormen, Leiserson, Rivest and Stein, "Introduction to Algorithms", section
-- 6.5 (priority queues).
use Rattle.std.specs.Prelude.{◌≡◌, Bool, false, Option, Some, None, List}
use Rattle.std.specs.BTreeSet.{BTreeSet, contains}
use Rattle.std.specs.List.{Contains}
use Rattle.std.specs.List.Sorted.{IsStrictlySortedBy}
use Rattle.std.specs.Map.{lookup}
use Rattle.std.specs.Option.{option_map_or}
use Rattle.std.specs.Ordering.{is_eq, ordering_then}
use Rattle.std.specs.declared.cmp.Ordering.{Ordering}
use Rattle.std.specs.declared.cmp.Ordering.TheVariants.{Less}

-- the value of a key, if it has one
abbrev pub value_in : {K V : Type 0} → (K → K → Bool) → List (K × V) → K → Option V
value_in eq entries key = lookup (eq key) entries

-- the rank of a key, if it has a value and the value has a rank
abbrev pub rank_in : {K V R : Type 0} → (K → K → Bool) → (K → V → Option R) → List (K × V) → K → Option R
rank_in eq rank_of entries key = option_map_or (rank_of key) (value_in eq entries key) None

-- pairs of a rank and a key: by rank, and of equal ranks by key
abbrev pub ranked_cmp : {K R : Type 0} → (R → R → Ordering) → (K → K → Ordering) → R × K → R × K → Ordering
ranked_cmp rank_cmp key_cmp one other = ordering_then (rank_cmp one.0 other.0) (key_cmp one.1 other.1)

-- whether a key's rank, if it has one, is a given rank
abbrev pub is_rank : {R : Type 0} → (R → R → Ordering) → Option R → R → Bool
is_rank rank_cmp None rank = false
is_rank rank_cmp (Some own) rank = is_eq (rank_cmp own rank)

-- a set has exactly the pairs of a rank and a key that has it
abbrev pub IsOrder : {K R : Type 0} → (R → R → Ordering) → (K → K → Ordering) → (K → Option R) → BTreeSet (R × K) → Type 0
IsOrder {K} {R} rank_cmp key_cmp ranks order = (rank : R) (key : K) → contains (ranked_cmp rank_cmp key_cmp) order (rank, key) ≡ is_rank rank_cmp (ranks key) rank

-- a list has exactly the pairs of a rank and a key that has it, in strictly rising order
pub record AreRanked {K R : Type 0} (rank_cmp : R → R → Ordering) (key_cmp : K → K → Ordering) (ranks : K → Option R) (ranked : List (R × K)) : Type 0 where
  pub all : (rank : R) (key : K) → ranks key ≡ Some rank → Contains ranked (rank, key)
  pub only : (rank : R) (key : K) → Contains ranked (rank, key) → ranks key ≡ Some rank
  pub rise : IsStrictlySortedBy (ranked_cmp rank_cmp key_cmp) ranked

-- a key has a rank, and no key that passes is better: none has a lesser rank, and none with the
-- same rank is a lesser key
pub record IsBest {K R : Type 0} (rank_cmp : R → R → Ordering) (key_cmp : K → K → Ordering) (ranks : K → Option R) (Passes : K → Type 0) (key : K) : Type 0 where
  pub rank : R
  pub here : ranks key ≡ Some rank
  pub no_lesser : (other : K) (that : R) → Passes other → ranks other ≡ Some that → rank_cmp that rank ≡ Less → ⊥
  pub no_earlier : (other : K) → Passes other → ranks other ≡ Some rank → key_cmp other key ≡ Less → ⊥

-- the best of all keys that have a rank; none if no key has one
abbrev pub IsFirst : {K R : Type 0} → (R → R → Ordering) → (K → K → Ordering) → (K → Option R) → Option K → Type 0
IsFirst {K} rank_cmp key_cmp ranks None = (key : K) → ranks key ≡ None
IsFirst {K} rank_cmp key_cmp ranks (Some key) = IsBest rank_cmp key_cmp ranks (λ (other : K). Unit {0}) key
