-- What a cover saves stays if a table that does not read a name of the cover is added, or is
-- replaced by another such one.
use Rattle.std.proofs.Common.{◌≡◌, ℕ, zero, suc, Bool, true, false, Option, Some, None, List, [], ◌∷◌, ◌++◌, set, refl, sym, ap, ◌∙◌, subst, inl, arith}
use Rattle.std.specs.List.{sum_by, AllByRecursion}
use Rattle.std.proofs.lemmas.Bool.{false≢true}
use Rattle.std.proofs.lemmas.List.{map_push}
use Rattle.std.proofs.lemmas.List.Sums.{sum_by-cons, sum_by_push}
use Rattle.std.proofs.lemmas.Option.{none-some, same_Some}
use Rattle.circuit_model.specs.Counts.{literals_of_table}
use Rattle.circuit_model.specs.Names.{has}
use Rattle.circuit_model.specs.Runs.{latch_outputs}
use Rattle.circuit_model.specs.Soundness.{given, outputs_of}
use Rattle.circuit_model.specs.declared.circuit.Table.{Table}
use Rattle.circuit_laws.proofs.Names.{has_none, has_neither}
use Rattle.circuit_laws.proofs.Sound.{all_append, all_parts}
use Rattle.net_candidates.specs.Extracting.{IsNarrow}
use Rattle.cover_names.specs.Literals.{NamedCover}
use Rattle.cover_names.specs.Cubes.{is_over, names_in}
use Rattle.net_work.specs.Placed.{Placed, standing, circuit_of, table_at, with_slot, with_last}
use Rattle.net_work.proofs.Standing.{place_there, outputs_set, standing_push}
use Rattle.alg_tables.specs.Dividing.{divided}
use Rattle.alg_tables.proofs.CoverTables.{over_names}
use Rattle.alg_tables.proofs.Divided.{unread_stays}
use Rattle.net_savings.specs.Saving.{lost_by, IsSaving}
use Rattle.net_savings.specs.Savings.{IsWorth, IsExact}
use Rattle.net_savings.proofs.Slots.{all_set}

-- ---- one table

-- a table that does not read a name of a cover stays
pub unread_all : (cover : NamedCover) (table : Table) (input : List ℕ) → has (names_in cover) input ≡ true → has table.inputs input ≡ false → (name : List ℕ) → divided name true cover table ≡ table
unread_all cover table input named unread name = cases (is_over table.inputs cover) refl
  where
    cases : (b : Bool) → is_over table.inputs cover ≡ b → divided name true cover table ≡ table
    cases true e = absurd (false≢true (sym unread ∙ over_names table.inputs cover input e named))
    cases false e = unread_stays name true cover table e

module _ (name : List ℕ) (cover : NamedCover) (table : Table) (stays : divided name true cover table ≡ table) where
  untouched_narrow : IsNarrow name cover table
  untouched_narrow = inl stays

  pub untouched_lost : lost_by name cover table ≡ 0
  untouched_lost =
      let same : literals_of_table (divided name true cover table) ≡ literals_of_table table = ap literals_of_table stays in
      omega (arith, same)

-- ---- one index

sum_set : (f : Table → ℕ) (slots : List (Option Table)) (place : ℕ) (old new : Table) → table_at slots place ≡ Some old → f old ≡ 0 → f new ≡ 0
    → sum_by f (standing (set slots place (Some new))) ≡ sum_by f (standing slots)
unfolding standing
sum_set f [] place old new there before now = refl
sum_set f (None ∷ slots) zero old new there before now = absurd (none-some old there)
sum_set f (None ∷ slots) (suc place) old new there before now = sum_set f slots place old new there before now
sum_set f (Some first ∷ slots) zero old new there before now =
    let here : f first ≡ 0 = ap f (same_Some first old there) ∙ before in
    omega (arith, here, now, sum_by-cons f new (standing slots), sum_by-cons f first (standing slots))
sum_set f (Some first ∷ slots) (suc place) old new there before now =
    let rest : sum_by f (standing (set slots place (Some new))) ≡ sum_by f (standing slots) = sum_set f slots place old new there before now in
    omega (arith, rest, sum_by-cons f first (standing (set slots place (Some new))), sum_by-cons f first (standing slots))

all_unset : (P : Table → Type 0) (slots : List (Option Table)) (place : ℕ) (old new : Table) → table_at slots place ≡ Some old → P old → AllByRecursion P (standing (set slots place (Some new)))
    → AllByRecursion P (standing slots)
unfolding standing
all_unset P [] place old new there before all = tt
all_unset P (None ∷ slots) zero old new there before all = absurd (none-some old there)
all_unset P (None ∷ slots) (suc place) old new there before all = all_unset P slots place old new there before all
all_unset P (Some first ∷ slots) zero old new there before all = (subst P (sym (same_Some first old there)) before, all.1)
all_unset P (Some first ∷ slots) (suc place) old new there before all = (all.0, all_unset P slots place old new there before all.1)

module _ (cover : NamedCover) where
  module _ (name : List ℕ) (slots : List (Option Table)) (place : ℕ) (old new : Table) (there : table_at slots place ≡ Some old) (before : divided name true cover old ≡ old) (now : divided name true cover new ≡ new) where
    set_sum : sum_by (lost_by name cover) (standing (set slots place (Some new))) ≡ sum_by (lost_by name cover) (standing slots)
    set_sum = sum_set (lost_by name cover) slots place old new there (untouched_lost name cover old before) (untouched_lost name cover new now)

    set_saving : (number : ℕ) → IsSaving (standing slots) name cover number → IsSaving (standing (set slots place (Some new))) name cover number
    set_saving number saving = record {
      narrow = record { added = saving.narrow.added; changed = all_set (IsNarrow name cover) slots place new (untouched_narrow name cover new now) saving.narrow.changed };
      exact = saving.exact ∙ sym set_sum;
      some = saving.some;
    }

    unset_saving : (number : ℕ) → IsSaving (standing (set slots place (Some new))) name cover number → IsSaving (standing slots) name cover number
    unset_saving number saving = record {
      narrow = record { added = saving.narrow.added; changed = all_unset (IsNarrow name cover) slots place old new there (untouched_narrow name cover old before) saving.narrow.changed };
      exact = saving.exact ∙ set_sum;
      some = saving.some;
    }

    set_worth : (number : ℕ) → IsWorth (standing slots) name cover number → IsWorth (standing (set slots place (Some new))) name cover number
    set_worth number worth = record {
      saving = λ some. set_saving number (worth.saving some);
      one = λ other saving. worth.one other (unset_saving other saving);
    }

  module _ (name : List ℕ) (tables : List Table) (new : Table) (now : divided name true cover new ≡ new) where
    push_sum : sum_by (lost_by name cover) (tables ++ new ∷ []) ≡ sum_by (lost_by name cover) tables
    push_sum =
        let none : lost_by name cover new ≡ 0 = untouched_lost name cover new now in
        omega (arith, none, sum_by_push (lost_by name cover) tables new)

    push_saving : (number : ℕ) → IsSaving tables name cover number → IsSaving (tables ++ new ∷ []) name cover number
    push_saving number saving = record {
      narrow = record { added = saving.narrow.added; changed = all_append (IsNarrow name cover) tables (new ∷ []) saving.narrow.changed (untouched_narrow name cover new now, tt) };
      exact = saving.exact ∙ sym push_sum;
      some = saving.some;
    }

    unpush_saving : (number : ℕ) → IsSaving (tables ++ new ∷ []) name cover number → IsSaving tables name cover number
    unpush_saving number saving = record {
      narrow = record { added = saving.narrow.added; changed = (all_parts (IsNarrow name cover) tables (new ∷ []) saving.narrow.changed).0 };
      exact = saving.exact ∙ push_sum;
      some = saving.some;
    }

    push_worth : (number : ℕ) → IsWorth tables name cover number → IsWorth (tables ++ new ∷ []) name cover number
    push_worth number worth = record {
      saving = λ some. push_saving number (worth.saving some);
      one = λ other saving. worth.one other (unpush_saving other saving);
    }

  -- ---- a network

  pub exact_after_set : (now : Placed) (place number : ℕ) (old new : Table) → table_at now.slots place ≡ Some old → new.output ≡ old.output → ((name : List ℕ) → divided name true cover old ≡ old)
      → ((name : List ℕ) → divided name true cover new ≡ new)
      → IsExact now cover number → IsExact (with_slot now place (Some new)) cover number
  unfolding given
  exact_after_set now place number old new there same before after exact = λ name undriven.
      set_worth name now.slots place old new there (before name) (after name) number
      (exact name (ap (λ (outputs : List (List ℕ)). has (now.frame.inputs ++ (latch_outputs (circuit_of now) ++ outputs)) name) (sym (outputs_set now.slots place old new (place_there now.slots place old there) same)) ∙ undriven))

  pub exact_after_add : (now : Placed) (number : ℕ) (new : Table) → ((name : List ℕ) → divided name true cover new ≡ new) → IsExact now cover number → IsExact (with_last now new) cover number
  unfolding given
  exact_after_add now number new after exact = λ name undriven.
      subst (λ (tables : List Table). IsWorth tables name cover number) (sym (standing_push now.slots new))
      (push_worth name (standing now.slots) new (after name) number (exact name (fewer name undriven)))
    where
      fewer : (name : List ℕ) → has (given (circuit_of (with_last now new))) name ≡ false → has (given (circuit_of now)) name ≡ false
      fewer name undriven =
          let more : outputs_of (standing (now.slots ++ Some new ∷ [])) ≡ outputs_of (standing now.slots) ++ new.output ∷ [] =
          ap outputs_of (standing_push now.slots new) ∙ map_push (λ (table : Table). table.output) (standing now.slots) new in
          let whole = ap (λ (outputs : List (List ℕ)). has (now.frame.inputs ++ (latch_outputs (circuit_of now) ++ outputs)) name) (sym more) ∙ undriven in
          let first = has_neither now.frame.inputs (latch_outputs (circuit_of now) ++ (outputs_of (standing now.slots) ++ new.output ∷ [])) name whole in
          let second = has_neither (latch_outputs (circuit_of now)) (outputs_of (standing now.slots) ++ new.output ∷ []) name first.1 in
          let third = has_neither (outputs_of (standing now.slots)) (new.output ∷ []) name second.1 in
          has_none now.frame.inputs (latch_outputs (circuit_of now) ++ outputs_of (standing now.slots)) name first.0 (has_none (latch_outputs (circuit_of now)) (outputs_of (standing now.slots)) name second.0 third.0)
