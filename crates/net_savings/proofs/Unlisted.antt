-- All tables up to an index can be listed, or the one there is the first with too many kernels.
use Rattle.std.proofs.Common.{◌≡◌, ℕ, ◌+◌, ◌<◌, suc, Option, Some, None, List, length, take, drop, refl, subst, sym, arith}
use Rattle.std.specs.List.{AllByRecursion}
use Rattle.circuit_model.specs.declared.circuit.Table.{Table}
use Rattle.circuit_laws.proofs.Sound.{all_append}
use Rattle.net_candidates.specs.Extracting.{IsListable}
use Rattle.net_candidates.specs.declared.rule.Rule.{Rule}
use Rattle.cover_names.specs.Literals.{NamedCover}
use Rattle.net_work.specs.Placed.{Placed, standing, circuit_of, table_at}
use Rattle.net_work.proofs.Indexed.{all_at}
use Rattle.net_savings.specs.Listing.{AreOwn, IsManyIn, IsUnlisted, told}
use Rattle.net_savings.specs.declared.fault.SavingsFault.{SavingsFault}
use Rattle.net_savings.specs.declared.fault.SavingsFault.TheVariants.{ManyKernels, Memory}
use Rattle.net_savings.proofs.Slots.{standing_around, standing_next}

-- all tables before an index can be listed
abbrev pub AreListable : Rule → List (Option Table) → ℕ → Type 0
AreListable rule slots at = AllByRecursion (IsListable rule) (standing (take at slots))

pub none_listable : (rule : Rule) (slots : List (Option Table)) → AreListable rule slots 0
unfolding standing
none_listable rule slots = tt

told_listable : (rule : Rule) (slot : Option Table) (covers : List NamedCover) → AreOwn rule slot covers → AllByRecursion (IsListable rule) (told slot)
told_listable rule None covers own = tt
told_listable rule (Some table) covers own = (own.0, tt)

-- one more index
pub listable_next : (rule : Rule) (slots : List (Option Table)) (at : ℕ) (covers : List NamedCover) → at < length slots → AreListable rule slots at → AreOwn rule (table_at slots at) covers
    → AreListable rule slots (at + 1)
listable_next rule slots at covers below before own =
    let one : suc at ≡ at + 1 = omega arith in
    subst (AreListable rule slots) one
    (subst (AllByRecursion (IsListable rule)) (sym (standing_next slots at below))
    (all_append (IsListable rule) (standing (take at slots)) (told (table_at slots at)) before (told_listable rule (table_at slots at) covers own)))

-- the first table with too many kernels
pub first_unlisted : (rule : Rule) (now : Placed) (at : ℕ) (fault : SavingsFault) → AreListable rule now.slots at → IsManyIn rule (table_at now.slots at) fault → IsUnlisted rule (circuit_of now) fault
first_unlisted rule now at fault before many = cases (table_at now.slots at) refl fault many
  where
    cases : (o : Option Table) → table_at now.slots at ≡ o → (fault : SavingsFault) → IsManyIn rule o fault → IsUnlisted rule (circuit_of now) fault
    cases None e (ManyKernels name) h = absurd h
    cases None e Memory h = tt
    cases (Some table) e (ManyKernels name) h = record {
      table = table;
      first = record {
        before = standing (take at now.slots);
        after = standing (drop (suc at) now.slots);
        is = standing_around now.slots at table e;
        pass = before;
        fails = h.0;
      };
      named = h.1;
    }
    cases (Some table) e Memory h = tt

-- a table with too many kernels is not listable
pub many_not : (rule : Rule) (slots : List (Option Table)) (place : ℕ) (name : List ℕ) → IsManyIn rule (table_at slots place) (ManyKernels name) → AllByRecursion (IsListable rule) (standing slots) → ⊥
many_not rule slots place name many all = cases (table_at slots place) refl many
  where
    cases : (o : Option Table) → table_at slots place ≡ o → IsManyIn rule o (ManyKernels name) → ⊥
    cases None e h = h
    cases (Some table) e h = all_at (IsListable rule) slots all place table e h.0
