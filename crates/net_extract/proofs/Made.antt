-- Tables of the program that are divided are the tables at their indices.
use Rattle.std.proofs.Common.{◌≡◌, ℕ, true, Option, Some, List, sym, ap, ◌∙◌, subst}
use Rattle.std.specs.List.{AllByRecursion}
use Rattle.circuit_model.specs.Names.{all_different}
use Rattle.circuit_model.specs.declared.circuit.Table.{Table}
use Rattle.cover_names.specs.Literals.{NamedCover}
use Rattle.net_core.specs.Places.{written_of}
use Rattle.net_core.specs.Reads.{IsBounded}
use Rattle.net_core.specs.Tables.{named, IsOverInputs}
use Rattle.net_core.specs.declared.places.Entry.{Entry}
use Rattle.net_core.specs.declared.table.CoverTable.{CoverTable}
use Rattle.net_work.specs.Placed.{Placed, standing, table_at, with_slot}
use Rattle.alg_tables.specs.Dividing.{divided}
use Rattle.net_savings.proofs.Slots.{all_set, set_same}
use Rattle.net_savings.proofs.Tabled.{made_once}
use Rattle.net_extract.specs.Dividing.{divided_slot, IsMade, IsMadeAt}

module _ {R : Type 0} (name : List ℕ) (cover : NamedCover) where
  pub made_is : (entry : Entry R) (made table : CoverTable R) → ((output : List ℕ) → named output made ≡ divided name true cover (named output entry.table)) → IsOverInputs made
      → all_different entry.table.inputs ≡ true → (table ≡ made) × ((output : List ℕ) → IsBounded (named output made)) → IsMade name cover (written_of entry) table
  unfolding named
  made_is entry made table some over once bounded = record {
    over = subst (λ (t : CoverTable R). IsOverInputs t) (sym bounded.0) over;
    once = ap (λ (t : CoverTable R). all_different t.inputs) bounded.0 ∙ made_once name cover entry.table made some once;
    is = ap (λ (t : CoverTable R). named entry.output t) bounded.0 ∙ some entry.output;
    bounded = subst IsBounded (some entry.output) (bounded.1 entry.output);
  }

  module _ (now new : Placed) (place : ℕ) where
    pub made_bounded : (made : CoverTable R) → IsMadeAt name cover now.slots place made → ((old : Table) → table_at now.slots place ≡ Some old → new ≡ with_slot now place (Some (named old.output made)))
        → AllByRecursion IsBounded (standing now.slots) → AllByRecursion IsBounded (standing new.slots)
    made_bounded made is set_is all =
        subst (λ (p : Placed). AllByRecursion IsBounded (standing p.slots))
        (sym (set_is is.table is.there ∙ ap (λ (t : Table). with_slot now place (Some t)) is.made_of.is))
        (all_set IsBounded now.slots place (divided name true cover is.table) is.made_of.bounded all)

-- an index whose table stays as it is
pub none_set : (name : List ℕ) (cover : NamedCover) (now : Placed) (place : ℕ) → divided_slot name cover (table_at now.slots place) ≡ table_at now.slots place
    → now ≡ with_slot now place (divided_slot name cover (table_at now.slots place))
none_set name cover now place stays = ap (λ (slots : List (Option Table)). record now { slots = slots }) (sym (set_same now.slots place (divided_slot name cover (table_at now.slots place)) stays))
