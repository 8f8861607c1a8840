-- What candidates save, kept while tables are added and change: the saving that is set for each,
-- which tables are listed, and what must be recomputed.
-- Source: the project's own representation.
use Rattle.std.specs.Prelude.{◌≡◌, ◌⊎◌, ℕ, ◌≤◌, Bool, false, true, Option, Some, None, List, length, slice_get, ◌&&◌}
use Rattle.std.specs.List.{list_any}
use Rattle.circuit_model.specs.Names.{has}
use Rattle.circuit_model.specs.Soundness.{given}
use Rattle.circuit_model.specs.declared.circuit.Table.{Table}
use Rattle.alg_div.specs.Cubes.{Has}
use Rattle.net_candidates.specs.declared.rule.Rule.{Rule}
use Rattle.net_readers.specs.Fanouts.{is_in}
use Rattle.cover_names.specs.Literals.{NamedCover}
use Rattle.cover_names.specs.Cubes.{names_in}
use Rattle.net_work.specs.Placed.{Placed, standing, circuit_of, table_at}
use Rattle.net_savings.specs.Listing.{AreKept, IsListed}
use Rattle.net_savings.specs.Meeting.{is_met}
use Rattle.net_savings.specs.Sharing.{IsSharedBy}
use Rattle.net_savings.specs.Orders.{cover_eq}
use Rattle.net_savings.specs.Ranking.{KnownCovers, saving_in, covers_under}
use Rattle.net_savings.specs.Saving.{IsSaving}
use Rattle.net_savings.specs.declared.kept.CandidateQueue.{CandidateQueue}

-- no signal has the name
abbrev pub IsUndriven : Placed → List ℕ → Type 0
IsUndriven placed name = has (given (circuit_of placed)) name ≡ false

-- a cover saves exactly so many literals, or none if the number is 0
pub record IsWorth (tables : List Table) (name : List ℕ) (cover : NamedCover) (number : ℕ) : Type 0 where
  pub saving : 1 ≤ number → IsSaving tables name cover number
  pub one : (other : ℕ) → IsSaving tables name cover other → other ≡ number

-- it does so under each name that no signal has
abbrev pub IsExact : Placed → NamedCover → ℕ → Type 0
IsExact placed cover number = (name : List ℕ) → IsUndriven placed name → IsWorth (standing placed.slots) name cover number

-- the saving that is set for a cover, if one is, is exact
abbrev pub IsRight : Placed → (NamedCover → Option ℕ) → NamedCover → Type 0
IsRight placed saving cover = (number : ℕ) → saving cover ≡ Some number → IsExact placed cover number

-- each cover with a saving is found under a name, and each cover under a name has that name
pub record AreFound (saving : NamedCover → Option ℕ) (under : List ℕ → List NamedCover) : Type 0 where
  pub found : (cover : NamedCover) (number : ℕ) → saving cover ≡ Some number → (name : List ℕ) × Has cover (under name)
  pub named : (name : List ℕ) (cover : NamedCover) → Has cover (under name) → has (names_in cover) name ≡ true

-- a saving is set for a cover
abbrev pub IsNoted : (NamedCover → Option ℕ) → NamedCover → Type 0
IsNoted saving cover = (number : ℕ) × (saving cover ≡ Some number)

-- savings are set for all covers that are listed
abbrev pub AreNoted : (NamedCover → Option ℕ) → List (Option (List NamedCover)) → Type 0
AreNoted saving own = (place : ℕ) (covers : List NamedCover) → slice_get own place ≡ Some (Some covers) → (cover : NamedCover) → Has cover covers → IsNoted saving cover

-- savings are set for all covers that listed tables give together
abbrev pub AreNotedShared : Rule → List (Option Table) → (NamedCover → Option ℕ) → List (Option (List NamedCover)) → Type 0
AreNotedShared rule slots saving own = (one other : ℕ) (cover : NamedCover) → IsListed own one → IsListed own other → IsSharedBy rule slots one other cover → IsNoted saving cover

-- the savings of covers under names that were not touched are exact, and so are those of covers
-- that are not met; all tables are listed except those at fresh indices
pub record AreNotes (rule : Rule) (placed : Placed) (saving : NamedCover → Option ℕ) (under : List ℕ → List NamedCover) (own : List (Option (List NamedCover))) (touched : List (List ℕ)) (met : NamedCover → Bool) (fresh : List ℕ) : Type 0 where
  pub found : AreFound saving under
  pub lists : AreKept rule placed.slots own
  pub long : length own ≡ length placed.slots
  pub exact : (name : List ℕ) (cover : NamedCover) → Has cover (under name) → (has touched name && met cover) ≡ false → IsRight placed saving cover
  pub noted : AreNoted saving own
  pub shared : AreNotedShared rule placed.slots saving own
  pub listed : (place : ℕ) (table : Table) → table_at placed.slots place ≡ Some table → is_in fresh place ≡ false → IsListed own place

-- more savings may be set than before, all that were right are right, and the cover of a name under
-- which it was not found before is right
pub record Grows (placed : Placed) (saving : NamedCover → Option ℕ) (under : List ℕ → List NamedCover) (new : NamedCover → Option ℕ) (new_under : List ℕ → List NamedCover) : Type 0 where
  pub right : (cover : NamedCover) → IsRight placed saving cover → IsRight placed new cover
  pub noted : (cover : NamedCover) → IsNoted saving cover → IsNoted new cover
  pub found : AreFound saving under → AreFound new new_under
  pub anew : (name : List ℕ) (cover : NamedCover) → Has cover (new_under name) → Has cover (under name) ⊎ IsRight placed new cover

-- all savings that are set are exact, and lists are what tables give by themselves
pub record AreTrue (rule : Rule) (placed : Placed) (known : KnownCovers) (own : List (Option (List NamedCover))) : Type 0 where
  pub found : AreFound (saving_in known) (covers_under known)
  pub right : (cover : NamedCover) → IsRight placed (saving_in known) cover
  pub lists : AreKept rule placed.slots own
  pub long : length own ≡ length placed.slots
  pub noted : AreNoted (saving_in known) own
  pub shared : AreNotedShared rule placed.slots (saving_in known) own

-- more savings may be set than before
abbrev pub IsGrown : Placed → KnownCovers → KnownCovers → Type 0
IsGrown placed known new = Grows placed (saving_in known) (covers_under known) (saving_in new) (covers_under new)

-- the savings kept are those of the tables, by a test of the covers that changes met
abbrev pub AreSavingsBy : Rule → Placed → CandidateQueue → (NamedCover → Bool) → Type 0
AreSavingsBy rule placed kept met = AreNotes rule placed (saving_in kept.ranked) (covers_under kept.ranked) kept.own.items kept.touched.keys met kept.fresh.items

-- the savings kept are those of the tables
abbrev pub AreSavings : Rule → Placed → CandidateQueue → Type 0
AreSavings rule placed kept = AreSavingsBy rule placed kept (is_met kept.changed.items)

-- a cover is in the list at an index
abbrev pub IsIn : List (Option (List NamedCover)) → ℕ → NamedCover → Type 0
IsIn own place cover = (covers : List NamedCover) × (slice_get own place ≡ Some (Some covers)) × Has cover covers

-- whether a cover is in a list, if there is one
abbrev pub held : Option (List NamedCover) → NamedCover → Bool
held None cover = false
held (Some covers) cover = list_any (cover_eq cover) covers

abbrev pub held_at : Option (Option (List NamedCover)) → NamedCover → Bool
held_at None cover = false
held_at (Some list) cover = held list cover
