-- The tables of the entries at indices.
use Rattle.std.proofs.Common.{◌≡◌, ℕ, true, Option, Some, List, refl, sym, ap, ◌∙◌, subst}
use Rattle.std.proofs.lemmas.Option.{same_Some}
use Rattle.circuit_model.specs.Names.{all_different}
use Rattle.circuit_model.specs.declared.circuit.Table.{Table}
use Rattle.net_core.specs.Places.{written_of}
use Rattle.net_core.specs.Tables.{named}
use Rattle.net_core.specs.declared.places.Entry.{Entry}
use Rattle.net_core.specs.declared.table.CoverTable.{CoverTable}
use Rattle.alg_tables.specs.Taking.{composed_into}
use Rattle.alg_tables.specs.declared.taking.ComposeFault.{ComposeFault}
use Rattle.alg_tables.specs.declared.taking.ComposeFault.TheVariants.{CubeLimit, TooWide, Memory}
use Rattle.alg_tables.proofs.Taken.{taken_once}
use Rattle.net_elim.specs.Collapse.{told, IsCause}
use Rattle.net_elim.specs.declared.fault.CollapseFault.{CollapseFault}

told_cause : (name : List ℕ) (fault : ComposeFault) → IsCause (Some (name, fault)) (told name fault)
told_cause name CubeLimit = refl
told_cause name (TooWide count) = refl
told_cause name Memory = tt

module _ {R : Type 0} where
  pub fault_named : (entry : Entry R) (found : Option Table) → Some (written_of entry) ≡ found → (name : List ℕ) → name ≡ entry.output → (fault : ComposeFault) (result : CollapseFault) → result ≡ told name fault
      → (outer : Table) → found ≡ Some outer → IsCause (Some (outer.output, fault)) result
  unfolding named
  fault_named entry found there name is fault result told_is outer at =
      let same : written_of entry ≡ outer = same_Some (written_of entry) outer (there ∙ at) in
      subst (λ (r : CollapseFault). IsCause (Some (outer.output, fault)) r) (sym (told_is ∙ ap (λ (n : List ℕ). told n fault) (is ∙ ap (λ (t : Table). t.output) same))) (told_cause outer.output fault)

  pub taken_named : (inner entry : Entry R) (found : Option Table) → Some (written_of entry) ≡ found → (made : CoverTable R) → ((output : List ℕ) → named output made ≡ composed_into (named inner.output inner.table) (named output entry.table))
      → (outer : Table) → found ≡ Some outer → named outer.output made ≡ composed_into (written_of inner) outer
  unfolding named
  taken_named inner entry found there made read outer at =
      subst (λ (t : Table). named t.output made ≡ composed_into (written_of inner) t) (same_Some (written_of entry) outer (there ∙ at)) (read entry.output)

  pub taken_differ : (inner entry : Entry R) (made : CoverTable R) → all_different entry.table.inputs ≡ true → ((output : List ℕ) → named output made ≡ composed_into (named inner.output inner.table) (named output entry.table))
      → all_different made.inputs ≡ true
  unfolding named
  taken_differ inner entry made once read =
      ap (λ (t : Table). all_different t.inputs) (read entry.output) ∙ taken_once (written_of inner) (written_of entry) once
