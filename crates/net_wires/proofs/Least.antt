-- Nothing is needed but what each closed test passes.
use Rattle.std.proofs.Common.{◌≡◌, ℕ, zero, suc, ◌+◌, Bool, true, false, not, ◌&&◌, ◌||◌, List, [], ◌∷◌, length, bytes_eq, refl, sym, ◌∙◌, subst, inl, inr, ◌⊎◌}
use Rattle.std.specs.List.{AllByRecursion}
use Rattle.std.proofs.lemmas.Bool.{false≢true, and_parts, or_cases, not-true}
use Rattle.circuit_model.specs.Names.{has}
use Rattle.circuit_model.specs.Soundness.{outputs_of, table_inputs}
use Rattle.circuit_model.specs.declared.circuit.Table.{Table}
use Rattle.circuit_model.specs.declared.circuit.Latch.{Latch}
use Rattle.circuit_model.specs.declared.circuit.Circuit.{Circuit}
use Rattle.circuit_laws.specs.Kept.{IsClosed}
use Rattle.circuit_laws.proofs.Names.{all_has, same_name}
use Rattle.net_wires.specs.Needed.{dont_care_reads, needed_within, is_needed}
use Rattle.net_wires.proofs.Closing.{tables_reach, latches_reach}

tables_least : (seen test : List ℕ → Bool) → ((name : List ℕ) → seen name ≡ true → test name ≡ true) → (tables : List Table)
    → AllByRecursion (λ (table : Table). test table.output ≡ true → AllByRecursion (λ name. test name ≡ true) table.inputs) tables
    → (name : List ℕ) → tables_reach seen name tables ≡ true → test name ≡ true
unfolding tables_reach
tables_least seen test passes [] closed name h = absurd (false≢true h)
tables_least seen test passes (table ∷ tables) closed name h =
    elim (or_cases (seen table.output && has table.inputs name) (tables_reach seen name tables) h) as (λ _. test name ≡ true) [
      | inl here ↦
          let p = and_parts (seen table.output) (has table.inputs name) here in
          all_has (λ x. test x ≡ true) table.inputs (closed.0 (passes table.output p.0)) name p.1
      | inr there ↦ tables_least seen test passes tables closed.1 name there
    ]

latches_least : (seen test : List ℕ → Bool) → ((name : List ℕ) → seen name ≡ true → test name ≡ true) → (latches : List Latch)
    → AllByRecursion (λ (latch : Latch). test latch.output ≡ true → test latch.input ≡ true) latches
    → (name : List ℕ) → latches_reach seen name latches ≡ true → test name ≡ true
unfolding latches_reach
latches_least seen test passes [] closed name h = absurd (false≢true h)
latches_least seen test passes (latch ∷ latches) closed name h =
    elim (or_cases (seen latch.output && bytes_eq latch.input name) (latches_reach seen name latches) h) as (λ _. test name ≡ true) [
      | inl here ↦
          let p = and_parts (seen latch.output) (bytes_eq latch.input name) here in
          subst (λ (x : List ℕ). test x ≡ true) (same_name latch.input name p.1) (closed.0 (passes latch.output p.0))
      | inr there ↦ latches_least seen test passes latches closed.1 name there
    ]

roots_least : (circuit : Circuit) (test : List ℕ → Bool) → IsClosed circuit test → (name : List ℕ) → (has circuit.outputs name || dont_care_reads circuit name) ≡ true → test name ≡ true
unfolding dont_care_reads
roots_least circuit test closed name h =
    elim (or_cases (has circuit.outputs name) (not (has (outputs_of circuit.dont_care) name) && has (table_inputs circuit.dont_care) name) h) as (λ _. test name ≡ true) [
      | inl shown ↦ all_has (λ x. test x ≡ true) circuit.outputs closed.outputs name shown
      | inr read ↦
          let p = and_parts (not (has (outputs_of circuit.dont_care) name)) (has (table_inputs circuit.dont_care) name) read in
          elim (all_has (λ x. (has (outputs_of circuit.dont_care) x ≡ true) ⊎ (test x ≡ true)) (table_inputs circuit.dont_care) closed.dont_care name p.1) as (λ _. test name ≡ true) [
            | inl own ↦ absurd (false≢true (sym (not-true (has (outputs_of circuit.dont_care) name) p.0) ∙ own))
            | inr fits ↦ fits
          ]
    ]

one_of : (a b c : Bool) → ((a || b) || c) ≡ true → (a ≡ true) ⊎ ((b ≡ true) ⊎ (c ≡ true))
one_of true b c h = inl refl
one_of false true c h = inr (inl refl)
one_of false false c h = inr (inr h)

pub within_least : (circuit : Circuit) (test : List ℕ → Bool) → IsClosed circuit test → (steps : ℕ) (name : List ℕ) → needed_within circuit steps name ≡ true → test name ≡ true
unfolding needed_within tables_reach latches_reach
within_least circuit test closed zero name h = roots_least circuit test closed name h
within_least circuit test closed (suc steps) name h =
    by (one_of (needed_within circuit steps name) (tables_reach (needed_within circuit steps) name circuit.tables) (latches_reach (needed_within circuit steps) name circuit.latches) h)
    (within_least circuit test closed steps)
  where
    by : (needed_within circuit steps name ≡ true)
        ⊎ ((tables_reach (needed_within circuit steps) name circuit.tables ≡ true) ⊎ (latches_reach (needed_within circuit steps) name circuit.latches ≡ true))
        → ((other : List ℕ) → needed_within circuit steps other ≡ true → test other ≡ true) → test name ≡ true
    by (inl before) passes = passes name before
    by (inr (inl table)) passes = tables_least (needed_within circuit steps) test passes circuit.tables closed.tables name table
    by (inr (inr latch)) passes = latches_least (needed_within circuit steps) test passes circuit.latches closed.latches name latch

pub needed_least : (circuit : Circuit) (test : List ℕ → Bool) → IsClosed circuit test → (name : List ℕ) → is_needed circuit name ≡ true → test name ≡ true
unfolding is_needed
needed_least circuit test closed name h = within_least circuit test closed (length circuit.tables + length circuit.latches) name h
