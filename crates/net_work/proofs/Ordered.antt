-- The order of tables depends on their names alone, lists only tables, and leads to their indices.
use Rattle.std.proofs.Common.{◌≡◌, ℕ, zero, suc, Bool, true, false, not, ◌&&◌, cond, Option, Some, None, List, [], ◌∷◌, ◌++◌, map, length, find, slice_get, is_some, bytes_eq, refl, sym, ap, ap₂, ◌∙◌, inl, inr}
use Rattle.std.specs.List.{list_all}
use Rattle.std.specs.Option.{option_map, option_map_or}
use Rattle.std.proofs.lemmas.Bool.{false≢true, or_cases}
use Rattle.std.proofs.lemmas.List.{length-map}
use Rattle.std.proofs.lemmas.Option.{same_Some, none-some}
use Rattle.circuit_model.specs.Names.{has, all_different}
use Rattle.circuit_model.specs.Soundness.{outputs_of}
use Rattle.circuit_model.specs.declared.circuit.Table.{Table}
use Rattle.circuit_model.specs.declared.circuit.Circuit.{Circuit}
use Rattle.circuit_laws.proofs.Names.{same_name, has_head, has_tail}
use Rattle.net_core.specs.Places.{present, IsIndexed}
use Rattle.net_core.specs.Tables.{named}
use Rattle.net_core.specs.declared.places.Entry.{Entry}
use Rattle.net_core.proofs.Indexing.{known_name, different_indexed}
use Rattle.circuit_order.specs.Order.{waits, is_ready, order_from, order_of}
use Rattle.circuit_order.proofs.Orders.{has_push}
use Rattle.net_work.specs.Placed.{Placed, standing, name_at}
use Rattle.net_work.specs.Slots.{written_slots, bare}
use Rattle.net_work.proofs.Standing.{standing_present, table_there}
use Rattle.net_work.proofs.Views.{view_of}

-- names alone
pub outputs_bare : (tables : List Table) → outputs_of (map bare tables) ≡ outputs_of tables
outputs_bare [] = refl
outputs_bare (table ∷ tables) = ap (λ (names : List (List ℕ)). table.output ∷ names) (outputs_bare tables)

ready_bare : (tables : List Table) (listed : List (List ℕ)) (table : Table) → is_ready (map bare tables) listed (bare table) ≡ is_ready tables listed table
unfolding is_ready waits
ready_bare tables listed table =
    ap (λ (names : List (List ℕ)). not (has listed table.output) && list_all (λ input. not (has names input && not (has listed input))) table.inputs) (outputs_bare tables)

find_bare : (test other : Table → Bool) → ((table : Table) → other (bare table) ≡ test table) → (tables : List Table) → find other (map bare tables) ≡ option_map bare (find test tables)
find_bare test other same [] = refl
find_bare test other same (table ∷ tables) = cases (test table) refl (find_bare test other same tables)
  where
    cases : (b : Bool) → test table ≡ b → find other (map bare tables) ≡ option_map bare (find test tables) → find other (map bare (table ∷ tables)) ≡ option_map bare (cond b (Some table) (find test tables))
    cases true e rest = ap (λ (b : Bool). cond b (Some (bare table)) (find other (map bare tables))) (same table ∙ e)
    cases false e rest = ap (λ (b : Bool). cond b (Some (bare table)) (find other (map bare tables))) (same table ∙ e) ∙ rest

from_bare : (tables : List Table) (fuel : ℕ) (listed : List (List ℕ)) → order_from (map bare tables) fuel listed ≡ order_from tables fuel listed
unfolding order_from
from_bare tables zero listed = refl
from_bare tables (suc fuel) listed =
    ap (λ (o : Option Table). option_map_or (λ (table : Table). order_from (map bare tables) fuel (listed ++ table.output ∷ [])) o listed)
    (find_bare (is_ready tables listed) (is_ready (map bare tables) listed) (ready_bare tables listed) tables)
    ∙ cases (find (is_ready tables listed) tables) (from_bare tables fuel)
  where
    cases : (o : Option Table) → ((names : List (List ℕ)) → order_from (map bare tables) fuel names ≡ order_from tables fuel names)
        → option_map_or (λ (table : Table). order_from (map bare tables) fuel (listed ++ table.output ∷ [])) (option_map bare o) listed ≡ option_map_or (λ (table : Table). order_from tables fuel (listed ++ table.output ∷ [])) o listed
    cases None rest = refl
    cases (Some table) rest = rest (listed ++ table.output ∷ [])

pub order_bare : (tables : List Table) → order_of (map bare tables) ≡ order_of tables
unfolding order_of
order_bare tables = ap (λ (fuel : ℕ). order_from (map bare tables) fuel []) (length-map tables bare) ∙ from_bare tables (length tables) []

-- only names of tables are listed
found_name : (test : Table → Bool) (tables : List Table) (table : Table) → find test tables ≡ Some table → has (outputs_of tables) table.output ≡ true
found_name test [] table e = absurd (none-some table e)
found_name test (first ∷ tables) table e = cases (test first) refl e (found_name test tables table)
  where
    cases : (b : Bool) → test first ≡ b → cond b (Some first) (find test tables) ≡ Some table → (find test tables ≡ Some table → has (outputs_of tables) table.output ≡ true) → has (outputs_of (first ∷ tables)) table.output ≡ true
    cases true passes at rest =
        ap (λ (t : Table). has (outputs_of (first ∷ tables)) t.output) (sym (same_Some first table at)) ∙ has_head first.output (outputs_of tables)
    cases false fails at rest = has_tail first.output (outputs_of tables) table.output (rest at)

driven_from : (tables : List Table) (fuel : ℕ) (listed : List (List ℕ)) → ((name : List ℕ) → has listed name ≡ true → has (outputs_of tables) name ≡ true)
    → (name : List ℕ) → has (order_from tables fuel listed) name ≡ true → has (outputs_of tables) name ≡ true
unfolding order_from
driven_from tables zero listed known name among = known name among
driven_from tables (suc fuel) listed known name among = cases (find (is_ready tables listed) tables) refl (driven_from tables fuel) among
  where
    cases : (o : Option Table) → find (is_ready tables listed) tables ≡ o
        → ((names : List (List ℕ)) → ((name : List ℕ) → has names name ≡ true → has (outputs_of tables) name ≡ true) → (name : List ℕ) → has (order_from tables fuel names) name ≡ true → has (outputs_of tables) name ≡ true)
        → has (option_map_or (λ (table : Table). order_from tables fuel (listed ++ table.output ∷ [])) o listed) name ≡ true → has (outputs_of tables) name ≡ true
    cases None e rest at = known name at
    cases (Some table) e rest at =
        rest (listed ++ table.output ∷ []) (λ other there.
        elim (or_cases (has listed other) (bytes_eq other table.output) (sym (has_push listed table.output other) ∙ there)) as (λ _. has (outputs_of tables) other ≡ true) [
          | inl m ↦ known other m
          | inr same ↦ ap (has (outputs_of tables)) (same_name other table.output same) ∙ found_name (is_ready tables listed) tables table e
        ]) name at

pub order_driven : (tables : List Table) (name : List ℕ) → has (order_of tables) name ≡ true → has (outputs_of tables) name ≡ true
unfolding order_of
order_driven tables name among = driven_from tables (length tables) [] (λ other there. absurd (false≢true there)) name among

-- the name at an index
pub name_among : (names : List (List ℕ)) (i : ℕ) (name : List ℕ) → slice_get names i ≡ Some name → has names name ≡ true
name_among [] i name at = absurd (none-some name at)
name_among (first ∷ names) zero name at = ap (has (first ∷ names)) (sym (same_Some first name at)) ∙ has_head first names
name_among (first ∷ names) (suc i) name at = has_tail first names name (name_among names i name at)

-- names lead to indices, and indices to names
module _ {R : Type 0} where
  pub names_at : (slots : List (Option (Entry R))) (f : List ℕ → Option ℕ) → IsIndexed slots f → (names : List (List ℕ)) (places : List ℕ) → map Some places ≡ map f names → map (name_at (written_slots slots)) places ≡ map Some names
  unfolding named
  names_at slots f h [] [] e = refl
  names_at slots f h [] (place ∷ places) e = absurd cc
  names_at slots f h (name ∷ names) [] e = absurd cc
  names_at slots f h (name ∷ names) (place ∷ places) e =
      let first : Some place ≡ f name = cc in
      let rest : map Some places ≡ map f names = cc in
      let (entry, at, is) = h.only name place (sym first) in
      ap₂ (λ (n : Option (List ℕ)) (ns : List (Option (List ℕ))). n ∷ ns)
      (ap (option_map (λ (table : Table). table.output)) (table_there slots place entry at) ∙ ap Some is) (names_at slots f h names places rest)

  -- the order of the tables that entries are
  pub order_different : (slots : List (Option (Entry R))) (f : List ℕ → Option ℕ) → IsIndexed slots f → (tables : List Table) → tables ≡ map bare (present slots) → all_different (outputs_of tables) ≡ true
  order_different slots f h tables is = ap (λ (ts : List Table). all_different (outputs_of ts)) is ∙ (ap all_different (outputs_bare (present slots)) ∙ different_indexed slots f h)

  pub order_known : (slots : List (Option (Entry R))) (f : List ℕ → Option ℕ) → IsIndexed slots f → (names : List (List ℕ)) → names ≡ order_of (map bare (present slots)) → (name : List ℕ) → has names name ≡ true → is_some (f name) ≡ true
  order_known slots f h names is name among =
      known_name slots f h name ∙ order_driven (present slots) name (ap (λ (ns : List (List ℕ)). has ns name) (sym (is ∙ order_bare (present slots))) ∙ among)

  pub order_placed : (frame : Circuit) (slots : List (Option (Entry R))) (f : List ℕ → Option ℕ) → IsIndexed slots f → (placed : Placed) → view_of frame slots ≡ placed → (names : List (List ℕ)) (places : List ℕ)
      → names ≡ order_of (map bare (present slots)) → map Some places ≡ map f names → map (name_at placed.slots) places ≡ map Some (order_of (standing placed.slots))
  order_placed frame slots f h placed view names places is found =
      ap (λ (p : Placed). map (name_at p.slots) places) (sym view)
      ∙ (names_at slots f h names places found
      ∙ (ap (λ (ns : List (List ℕ)). map Some ns) (is ∙ (order_bare (present slots) ∙ ap order_of (sym (standing_present slots)))) ∙ ap (λ (p : Placed). map Some (order_of (standing p.slots))) view))
