-- Tables that stay or become narrow if they are divided by a cover.
use Rattle.std.proofs.Common.{◌≡◌, ◌↔◌, ℕ, ◌+◌, ◌<◌, ◌≤◌, Bool, true, false, IsTrue, Option, Some, None, is_some, List, [], ◌∷◌, length, sym, ◌∙◌, subst, inl, inr, arith}
use Rattle.std.specs.List.{AllByRecursion}
use Rattle.std.proofs.lemmas.Bool.{false≢true}
use Rattle.circuit_model.specs.Names.{has, all_different}
use Rattle.circuit_model.specs.Soundness.{IsSound}
use Rattle.circuit_model.specs.declared.circuit.Table.{Table}
use Rattle.alg_div.specs.Cubes.{Has}
use Rattle.net_candidates.specs.Extracting.{IsNarrow}
use Rattle.net_candidates.proofs.Gains.{divided_or_not}
use Rattle.net_candidates.proofs.Usable.{all_member}
use Rattle.cover_names.specs.Literals.{NamedCover}
use Rattle.net_core.specs.Fresh.{IsNewName}
use Rattle.net_core.specs.Places.{written_of}
use Rattle.net_core.specs.Tables.{named}
use Rattle.net_core.specs.declared.places.Entry.{Entry}
use Rattle.net_work.specs.Placed.{Placed, standing, circuit_of, table_at}
use Rattle.alg_tables.specs.Dividing.{divided, cover_table}
use Rattle.net_savings.specs.Saving.{IsNarrowIn, IsLoss, LeavesNarrow}
use Rattle.net_savings.specs.Indexed.{AreAll}
use Rattle.net_savings.proofs.Losing.{all_narrow, narrow_there}
use Rattle.net_savings.proofs.Reading.{divided_few}
use Rattle.net_savings.proofs.Tabled.{name_unread}
use Rattle.sis_base.specs.declared.limits.TheConstants.{MAX_INPUTS}

module _ (name : List ℕ) (cover : NamedCover) where
  -- a table that has fewer inputs than the limit
  pub few_narrow : (table : Table) → all_different table.inputs ≡ true → has table.inputs name ≡ false → length table.inputs < MAX_INPUTS → IsNarrow name cover table
  few_narrow table once free few =
      elim (divided_or_not name true cover table) as (λ _. IsNarrow name cover table) [
        | inl way ↦ inr (let more : length (divided name true cover table).inputs ≤ length table.inputs + 1 = divided_few name true cover table once free way in omega (arith, few, more))
        | inr stays ↦ inl stays
      ]

  pub entry_narrow : {R : Type 0} (now : Placed) (entry : Entry R) (place : ℕ) → IsSound (circuit_of now) → IsNewName (circuit_of now) name → Some (written_of entry) ≡ table_at now.slots place
      → all_different entry.table.inputs ≡ true → length entry.table.inputs < MAX_INPUTS → IsNarrowIn name cover (table_at now.slots place)
  unfolding named
  entry_narrow now entry place sound new there once few =
      subst (IsNarrowIn name cover) there (few_narrow (written_of entry) once (name_unread now name entry place sound new there) few)

  -- a loss says whether a table is narrow
  pub loss_tells : (table : Option Table) (loss : Option ℕ) (some : Bool) → some ≡ is_some loss → IsLoss name cover table loss → IsTrue some ↔ IsNarrowIn name cover table
  loss_tells table None some is told = (λ yes. absurd (false≢true (sym is ∙ yes)), λ narrow. absurd (told narrow))
  loss_tells table (Some lost) some is told = (λ yes. told.1, λ narrow. is)

  module _ (slots : List (Option Table)) (places : List ℕ) where
    -- the table at one index is not narrow
    pub wide_among : (place : ℕ) (narrow : Bool) → Has place places → (IsTrue narrow ↔ IsNarrowIn name cover (table_at slots place)) → narrow ≡ false
        → IsTrue false ↔ AllByRecursion (λ at. IsNarrowIn name cover (table_at slots at)) places
    wide_among place narrow among told wide = (
      λ yes. absurd (false≢true yes),
      λ all. sym wide ∙ told.1 (all_member (λ at. IsNarrowIn name cover (table_at slots at)) places all place among),
    )

  module _ (slots : List (Option Table)) where
    each_narrow : (places : List ℕ) → AllByRecursion (IsNarrow name cover) (standing slots) → AllByRecursion (λ at. IsNarrowIn name cover (table_at slots at)) places
    each_narrow [] all = tt
    each_narrow (place ∷ places) all = (narrow_there name cover slots all place, each_narrow places all)

    -- what holds at the indices of all tables that the cover may divide holds of all tables
    pub leaves_told : (places : List ℕ) → AreAll cover slots places → length (cover_table name cover).inputs ≤ MAX_INPUTS → (narrow : Bool)
        → IsTrue narrow ↔ AllByRecursion (λ at. IsNarrowIn name cover (table_at slots at)) places → IsTrue narrow ↔ LeavesNarrow (standing slots) name cover
    leaves_told places are few narrow told = (
      λ yes. record { added = few; changed = all_narrow name cover slots places are (told.0 yes) },
      λ leaves. told.1 (each_narrow places leaves.changed),
    )

    pub leaves_wide : MAX_INPUTS < length (cover_table name cover).inputs → IsTrue false ↔ LeavesNarrow (standing slots) name cover
    leaves_wide many = (λ yes. absurd (false≢true yes), λ leaves. absurd (omega (arith, many, leaves.added)))
