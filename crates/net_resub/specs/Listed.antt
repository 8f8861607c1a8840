-- Indices of tables in lists, each under a name that all tables read which the table there divides.
-- No public clause needs these definitions.
-- Source: Brayton, Rudell, Sangiovanni-Vincentelli and Wang, "MIS: A Multiple-Level Logic
-- Optimization System" (1987): a divisor's literals are among those of the table that it divides.
-- The lists are the project's own.
use Rattle.std.specs.Prelude.{◌≡◌, ◌⊎◌, ℕ, Bool, true, Option, Some, None, List, [], bytes_eq}
use Rattle.std.specs.declared.vec.Vec.{Vec}
use Rattle.indexmap.specs.IndexMap.{get}
use Rattle.circuit_model.specs.Names.{has}
use Rattle.circuit_model.specs.declared.circuit.Table.{Table}
use Rattle.net_readers.specs.Fanouts.{is_in}
use Rattle.cover_names.specs.Literals.{NamedCover}
use Rattle.net_candidates.specs.Spots.{places_in}
use Rattle.cover_names.specs.Cubes.{is_over}
use Rattle.net_work.specs.Placed.{table_at}
use Rattle.net_resub.specs.Resubbed.{row_cubes}
use Rattle.net_resub.specs.declared.listed.DivisorLists.{DivisorLists}

-- each list of names that includes those of all literals of a cover includes a given one
abbrev pub IsNeeded : NamedCover → List ℕ → Type 0
IsNeeded cover name = (names : List (List ℕ)) → is_over names cover ≡ true → has names name ≡ true

abbrev pub in_list : {Y : Type 0} → Option (Vec ℕ Y) → ℕ → Bool
in_list list at = is_in (places_in list) at

-- whether an index is listed under a name
abbrev pub is_under : DivisorLists → List ℕ → ℕ → Bool
is_under lists name at = in_list (get bytes_eq lists.named name) at

-- an index was added to others
pub record HasPut (place : ℕ) (old new : List ℕ) : Type 0 where
  pub here : is_in new place ≡ true
  pub still : (at : ℕ) → is_in old at ≡ true → is_in new at ≡ true

-- an index was added under a name
pub record HasPutUnder (name : List ℕ) (place : ℕ) (old new : List ℕ → ℕ → Bool) : Type 0 where
  pub here : new name place ≡ true
  pub still : (other : List ℕ) (at : ℕ) → old other at ≡ true → new other at ≡ true

-- indices to which those under some names were added
pub record AreJoined (under : List ℕ → ℕ → Bool) (names : List (List ℕ)) (before after : List ℕ) : Type 0 where
  pub more : (at : ℕ) → is_in before at ≡ true → is_in after at ≡ true
  pub listed : (at : ℕ) (name : List ℕ) → has names name ≡ true → under name at ≡ true → is_in after at ≡ true

-- the index of a table is among those without a name, if no row has a literal, or under a name that
-- each list of all its literals' names includes
abbrev pub IsListed : DivisorLists → ℕ → Table → Type 0
IsListed lists at table = ((is_in lists.unnamed.items at ≡ true) × (is_over [] (row_cubes table) ≡ true)) ⊎ ((name : List ℕ) × IsNeeded (row_cubes table) name × (is_under lists name at ≡ true))

-- the same for all tables at indices that pass a test
abbrev pub AreListed : (ℕ → Bool) → List (Option Table) → DivisorLists → Type 0
AreListed test slots lists = (at : ℕ) (table : Table) → test at ≡ true → table_at slots at ≡ Some table → IsListed lists at table
