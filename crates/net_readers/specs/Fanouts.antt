-- The fanouts of names: the indices at which a name is among the inputs, no more and no fewer.
-- Source: Brayton, Rudell, Sangiovanni-Vincentelli and Wang, "MIS: A Multiple-Level Logic
-- Optimization System" (1987): the fanout of a node is the set of nodes that have it as fanin.
use Rattle.std.specs.Prelude.{◌≡◌, ℕ, ◌==◌, Bool, true, false, Option, Some, None, List, bytes_eq, if◌then◌else◌}
use Rattle.std.specs.List.{list_any}
use Rattle.std.specs.Ordering.{nat_cmp}
use Rattle.std.specs.BTreeSet.{BTreeSet, contains}
use Rattle.indexmap.specs.IndexMap.{get}
use Rattle.circuit_model.specs.Names.{has}
use Rattle.net_readers.specs.declared.Fanouts.{Fanouts}

-- the names that are read at each index; none where there is no node
abbrev pub Inputs : Type 0
Inputs = ℕ → List (List ℕ)

-- exactly the fanouts of each name are listed
abbrev pub AreReaders : (List ℕ → ℕ → Bool) → Inputs → Type 0
AreReaders told inputs = (name : List ℕ) (place : ℕ) → told name place ≡ has (inputs place) name

-- the inputs with other names at an index
abbrev pub with_inputs : Inputs → ℕ → List (List ℕ) → Inputs
with_inputs inputs place names at = if place == at then names else inputs at

-- whether an index is among some indices
abbrev pub is_in : List ℕ → ℕ → Bool
is_in places place = list_any (λ other. other == place) places

-- the indices in the set of a name; a name without one has no fanout
abbrev pub in_set : Option (BTreeSet ℕ) → ℕ → Bool
in_set None place = false
in_set (Some set) place = contains nat_cmp set place

-- whether an index is listed for a name
abbrev pub told : Fanouts → List ℕ → ℕ → Bool
told readers name place = in_set (get bytes_eq readers.sets name) place

-- after the names read at an index changed: those that are no longer read there are no longer
-- listed for it; nothing is listed for it that was not listed before, and nothing changes for other
-- indices
pub record HasUntold (before now : List (List ℕ)) (place : ℕ) (old new : List ℕ → ℕ → Bool) : Type 0 where
  pub others : (name : List ℕ) (at : ℕ) → (place == at) ≡ false → new name at ≡ old name at
  pub gone : (name : List ℕ) → has before name ≡ true → has now name ≡ false → new name place ≡ false
  pub fewer : (name : List ℕ) → new name place ≡ true → old name place ≡ true
