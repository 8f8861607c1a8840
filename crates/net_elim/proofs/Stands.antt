-- Tables by index and the list of all tables: what agrees at each index agrees in the list.
use Rattle.std.proofs.Common.{◌≡◌, ℕ, ◌≤◌, zero, suc, Bool, true, false, if◌then◌else◌, Option, Some, None, List, [], ◌∷◌, map, filter, length, set, is_some, refl, sym, ap, ◌∙◌, subst, arith}
use Rattle.std.specs.Option.{option_map}
use Rattle.std.specs.List.{AllByRecursion}
use Rattle.std.proofs.lemmas.Option.{none-some, same_Some}
use Rattle.circuit_model.specs.Soundness.{outputs_of}
use Rattle.circuit_model.specs.declared.circuit.Table.{Table}
use Rattle.circuit_model.specs.declared.circuit.Circuit.{Circuit}
use Rattle.circuit_laws.specs.Edits.{is_root}
use Rattle.net_core.proofs.Lookups.{get_set_same, get_set_other}
use Rattle.net_work.specs.Placed.{standing, joined, table_at, name_at}
use Rattle.net_work.proofs.Standing.{place_there}
use Rattle.net_elim.specs.Phases.{rooted}

-- no table at any index
none_stand : (slots : List (Option Table)) → ((at : ℕ) → table_at slots at ≡ None) → standing slots ≡ []
unfolding standing
none_stand [] h = refl
none_stand (None ∷ slots) h = none_stand slots (λ at. h (suc at))
none_stand (Some table ∷ slots) h = absurd (none-some table (sym (h 0)))

no_table : (turn : Table → Table) (found : Option Table) → None ≡ option_map turn found → found ≡ None
no_table turn None h = refl
no_table turn (Some table) h = absurd (none-some (turn table) h)

-- each table is changed
pub standing_mapped : (turn : Table → Table) (slots others : List (Option Table)) → ((at : ℕ) → table_at others at ≡ option_map turn (table_at slots at)) → standing others ≡ map turn (standing slots)
unfolding standing
standing_mapped turn [] others h = none_stand others h
standing_mapped turn (slot ∷ slots) [] h =
    ap (map turn) (sym (none_stand (slot ∷ slots) (λ at. no_table turn (table_at (slot ∷ slots) at) (h at))))
standing_mapped turn (slot ∷ slots) (other ∷ others) h =
    ap (λ (x : Option Table). standing (x ∷ others)) (h 0) ∙ cases slot (standing_mapped turn slots others (λ at. h (suc at)))
  where
    cases : (x : Option Table) → standing others ≡ map turn (standing slots) → standing (option_map turn x ∷ others) ≡ map turn (standing (x ∷ slots))
    cases None rest = rest
    cases (Some table) rest = ap (λ (ts : List Table). turn table ∷ ts) rest

-- the tables keep their names
no_name : (found : Option Table) → None ≡ option_map (λ (table : Table). table.output) found → found ≡ None
no_name None h = refl
no_name (Some table) h = absurd (none-some table.output h)

pub outputs_same : (slots others : List (Option Table)) → ((at : ℕ) → name_at others at ≡ name_at slots at) → outputs_of (standing others) ≡ outputs_of (standing slots)
unfolding standing
outputs_same [] others h = ap outputs_of (none_stand others (λ at. no_name (table_at others at) (sym (h at))))
outputs_same (slot ∷ slots) [] h = ap outputs_of (sym (none_stand (slot ∷ slots) (λ at. no_name (table_at (slot ∷ slots) at) (h at))))
outputs_same (slot ∷ slots) (other ∷ others) h = cases other slot (h 0) (outputs_same slots others (λ at. h (suc at)))
  where
    cases : (y x : Option Table) → option_map (λ (table : Table). table.output) y ≡ option_map (λ (table : Table). table.output) x → outputs_of (standing others) ≡ outputs_of (standing slots)
        → outputs_of (standing (y ∷ others)) ≡ outputs_of (standing (x ∷ slots))
    cases None None e rest = rest
    cases None (Some table) e rest = absurd (none-some table.output e)
    cases (Some table) None e rest = absurd (none-some table.output (sym e))
    cases (Some table) (Some first) e rest =
        ap (λ (name : List ℕ). name ∷ outputs_of (standing others)) (same_Some table.output first.output e) ∙ ap (λ (names : List (List ℕ)). first.output ∷ names) rest

-- some tables stay
pub standing_rooted : (frame : Circuit) (test : Table → Bool) (slots others : List (Option Table)) → AllByRecursion (λ (table : Table). test table ≡ is_root frame table.output) (standing slots)
    → ((at : ℕ) → table_at others at ≡ rooted frame (table_at slots at)) → standing others ≡ filter test (standing slots)
unfolding standing
standing_rooted frame test [] others same h = none_stand others h
standing_rooted frame test (None ∷ slots) [] same h = standing_rooted frame test slots [] same (λ at. h (suc at))
standing_rooted frame test (Some table ∷ slots) [] same h = cases (is_root frame table.output) refl (h 0) (standing_rooted frame test slots [] same.1 (λ at. h (suc at)))
  where
    cases : (b : Bool) → is_root frame table.output ≡ b → None ≡ (if b then Some table else None) → [] ≡ filter test (standing slots) → [] ≡ filter test (table ∷ standing slots)
    cases true e k rest = absurd (none-some table k)
    cases false e k rest =
        rest
        ∙ ap (λ (b : Bool). if b then table ∷ filter test (standing slots) else filter test (standing slots)) (sym (same.0 ∙ e))
standing_rooted frame test (None ∷ slots) (other ∷ others) same h =
    ap (λ (x : Option Table). standing (x ∷ others)) (h 0) ∙ standing_rooted frame test slots others same (λ at. h (suc at))
standing_rooted frame test (Some table ∷ slots) (other ∷ others) same h =
    ap (λ (x : Option Table). standing (x ∷ others)) (h 0) ∙ cases (is_root frame table.output) refl (standing_rooted frame test slots others same.1 (λ at. h (suc at)))
  where
    cases : (b : Bool) → is_root frame table.output ≡ b → standing others ≡ filter test (standing slots) → standing ((if b then Some table else None) ∷ others) ≡ filter test (table ∷ standing slots)
    cases true e rest =
        ap (λ (ts : List Table). table ∷ ts) rest ∙ ap (λ (b : Bool). if b then table ∷ filter test (standing slots) else filter test (standing slots)) (sym (same.0 ∙ e))
    cases false e rest =
        rest ∙ ap (λ (b : Bool). if b then table ∷ filter test (standing slots) else filter test (standing slots)) (sym (same.0 ∙ e))

-- an index that is written
pub written_there : (slots : List (Option Table)) (place : ℕ) (table : Table) (new : Option Table) → table_at slots place ≡ Some table → table_at (set slots place new) place ≡ new
written_there slots place table new at = ap joined (get_set_same slots place (Some table) new (place_there slots place table at))

pub written_elsewhere : (slots : List (Option Table)) (place at : ℕ) (new : Option Table) → (at ≡ place → ⊥) → table_at (set slots place new) at ≡ table_at slots at
written_elsewhere slots place at new apart = ap joined (get_set_other slots place at new apart)

-- past the last index
pub past_end : (slots : List (Option Table)) (at : ℕ) → length slots ≤ at → table_at slots at ≡ None
past_end [] at h = refl
past_end (slot ∷ slots) zero h = absurd (omega (arith, h))
past_end (slot ∷ slots) (suc at) h = past_end slots at (omega (arith, h))

-- an index that has a table
pub some_there : (found : Option Table) → is_some found ≡ true → (table : Table) × (found ≡ Some table)
some_there None h = absurd cc
some_there (Some table) h = (table, refl)
