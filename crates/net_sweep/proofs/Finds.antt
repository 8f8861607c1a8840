-- Items by index, and the widths of the tables of a sound circuit.
use Rattle.std.proofs.Common.{◌≡◌, ℕ, ◌+◌, Bool, false, cond, ◌∙◌, zero, suc, ◌<◌, Option, Some, None, List, [], ◌∷◌, length, refl, sym, ap, arith}
use Rattle.std.specs.List.{slice_get, count_by, AllByRecursion}
use Rattle.std.proofs.lemmas.List.Elements.{filter_agree}
use Rattle.std.proofs.lemmas.List.Sums.{length-filter, sum_by-cons}
use Rattle.circuit_model.specs.declared.circuit.Table.{Table}
use Rattle.std.specs.Option.{option_map_or}
use Rattle.circuit_model.specs.Soundness.{IsShaped, outputs_of}
use Rattle.net_core.specs.Places.{present}
use Rattle.net_core.specs.Tables.{named}
use Rattle.net_core.specs.declared.places.Entry.{Entry}
use Rattle.circuit_tables.specs.Tidy.{IsWide}

pub within : {X : Type 0} (items : List X) (i : ℕ) (item : X) → slice_get items i ≡ Some item → i < length items
within [] i item h = let z : None ≡ Some item = h in absurd cc
within (x ∷ items) zero item h = omega arith
within (x ∷ items) (suc i) item h = omega (arith, within items i item h)

-- tables of a sound circuit
pub all_wide : (tables : List Table) → AllByRecursion IsShaped tables → AllByRecursion IsWide tables
all_wide [] h = tt
all_wide (table ∷ tables) h = (h.0.0, all_wide tables h.1)

-- the names of the tables in slots that pass a test
pub count_present : {R : Type 0} (p : List ℕ → Bool) (slots : List (Option (Entry R)))
    → count_by (λ slot. option_map_or (λ (entry : Entry R). p entry.output) slot false) slots
    ≡ count_by p (outputs_of (present slots))
unfolding present named
count_present p [] = refl
count_present p (None ∷ slots) = count_present p slots
count_present {R} p (Some entry ∷ slots) =
    sum_by-cons (λ (slot : Option (Entry R)).
    cond {A = ℕ} (option_map_or (λ (e : Entry R). p e.output) slot false) 1 0) (Some entry) slots
    ∙ (ap (λ (n : ℕ). cond {A = ℕ} (p entry.output) 1 0 + n) (count_present p slots)
    ∙ sym (sum_by-cons (λ (name : List ℕ). cond {A = ℕ} (p name) 1 0) entry.output
    (outputs_of (present slots))))

-- tests that agree count the same
pub count_same : {X : Type 0} (p q : X → Bool) → ((x : X) → p x ≡ q x) → (items : List X) → count_by p items ≡ count_by q items
count_same p q h items = sym (length-filter p items) ∙ (ap length (filter_agree p q h items) ∙ length-filter q items)
