-- Tables by index: the one that drives a signal, and the names that stay when one is written over.
use Rattle.std.proofs.Common.{◌≡◌, ℕ, Option, Some, List, set, sym, ap, ◌∙◌, inl, inr}
use Rattle.std.specs.Option.{option_map}
use Rattle.std.proofs.lemmas.Bool.{cases_eq}
use Rattle.std.proofs.lemmas.Option.{same_Some}
use Rattle.circuit_model.specs.Soundness.{IsSound}
use Rattle.circuit_model.specs.Values.{driver}
use Rattle.circuit_model.specs.declared.circuit.Table.{Table}
use Rattle.net_core.proofs.Lookups.{get_set_same, get_set_other}
use Rattle.net_work.specs.Placed.{Placed, standing, circuit_of, joined, table_at, name_at}
use Rattle.net_work.proofs.Indexed.{drives}
use Rattle.net_work.proofs.Standing.{place_there}

pub drives_found : (placed : Placed) (place : ℕ) (table : Table) (name : List ℕ) → IsSound (circuit_of placed) → Some table ≡ table_at placed.slots place
    → (other : Table) × (table_at placed.slots place ≡ Some other) × (other.output ≡ name) → driver (standing placed.slots) name ≡ Some table
drives_found placed place table name sound at there =
    let (other, other_at, is) = there in
    let same : table ≡ other = same_Some table other (at ∙ other_at) in
    ap (driver (standing placed.slots)) (sym (ap (λ (t : Table). t.output) same ∙ is)) ∙ drives placed place table sound (sym at)

-- a place that is written over keeps its name
pub names_kept : (slots : List (Option Table)) (place : ℕ) (old new : Table) → table_at slots place ≡ Some old → new.output ≡ old.output → (at : ℕ) → name_at (set slots place (Some new)) at ≡ name_at slots at
names_kept slots place old new there same at = elim (cases_eq at place) as (λ _. name_at (set slots place (Some new)) at ≡ name_at slots at) [
  | inl here ↦
      ap (name_at (set slots place (Some new))) here
      ∙ (ap (λ (found : Option (Option Table)). option_map (λ (table : Table). table.output) (joined found)) (get_set_same slots place (Some old) (Some new) (place_there slots place old there))
      ∙ (ap (λ (name : List ℕ). Some name) same
      ∙ (sym (ap (option_map (λ (table : Table). table.output)) there) ∙ ap (name_at slots) (sym here))))
  | inr apart ↦ ap (λ (found : Option (Option Table)). option_map (λ (table : Table). table.output) (joined found)) (get_set_other slots place at (Some new) apart)
]
