-- A table is replaced by another one with its signal: at each leaf assignment either each signal
-- keeps its value, or each has the value that it had with the table's signal complemented.
use Rattle.std.proofs.Common.{◌≡◌, ℕ, ◌<◌, Bool, true, false, not, Option, Some, unwrap_or, cond, List, bytes_eq}
use Rattle.std.proofs.Common.{refl, sym, ap, ◌∙◌, inl, inr, ◌⊎◌, arith}
use Rattle.std.specs.List.{AllByRecursion}
use Rattle.circuit_model.specs.Names.{has}
use Rattle.circuit_model.specs.Values.{Leaves, driver, driven_value, signal_value}
use Rattle.circuit_model.specs.Runs.{leaves_of, value_in}
use Rattle.circuit_model.specs.Soundness.{IsAcyclic}
use Rattle.circuit_model.specs.declared.circuit.Table.{Table}
use Rattle.circuit_model.specs.declared.circuit.Circuit.{Circuit}
use Rattle.circuit_laws.specs.Edits.{replaced, with_replaced}
use Rattle.circuit_laws.specs.Ranks.{HasRank}
use Rattle.circuit_laws.specs.Same.{IsSettled}
use Rattle.circuit_laws.specs.Valuations.{due, IsValued}
use Rattle.circuit_laws.proofs.Drivers.{driver_output, driver_replaced_other, driver_replaced_own}
use Rattle.circuit_laws.proofs.Names.{all_has, all_from_has, name_cases, name_itself, name_not}
use Rattle.circuit_laws.proofs.Paths.{narrowed_acyclic}
use Rattle.circuit_laws.proofs.Ranks.{acyclic_rank}
use Rattle.circuit_laws.proofs.Same.{leaves_same}
use Rattle.circuit_laws.proofs.Tables.{driven_free, value_due, value_obeys}
use Rattle.circuit_laws.proofs.Values.{value_same, valued, value_within, value_only}
use Rattle.net_func.specs.Signals.{fixed}

fixed_own : (name : List ℕ) (bit : Bool) (leaves : Leaves) → fixed name bit leaves name ≡ Some bit
unfolding fixed
fixed_own name bit leaves =
    ap (λ (b : Bool). cond b (Some bit) (leaves name)) (name_itself name)

fixed_other : (name signal : List ℕ) (bit : Bool) (leaves : Leaves) → bytes_eq signal name ≡ false
    → fixed name bit leaves signal ≡ leaves signal
unfolding fixed
fixed_other name signal bit leaves apart =
    ap (λ (b : Bool). cond b (Some bit) (leaves signal)) apart

bits_or : (a b : Bool) → (a ≡ b) ⊎ (a ≡ not b)
bits_or true true = inl refl
bits_or true false = inr refl
bits_or false true = inr refl
bits_or false false = inl refl

-- the values of all signals if one of them is complemented
abbrev pub turned_values : Circuit → List ℕ → List Bool → List Bool → List ℕ → Bool
turned_values circuit name state row signal =
    signal_value circuit.tables
    (fixed name (not (value_in circuit state row name)) (leaves_of circuit state row)) signal

-- either each signal keeps its value if a table is replaced by another one, or the two tables
-- differ there, and each signal has the value that it had with theirs complemented
abbrev pub KeepsOrTurns : Circuit → Table → Table → List Bool → List Bool → Type 0
KeepsOrTurns circuit old new state row =
    ((signal : List ℕ) → value_in circuit state row signal
    ≡ value_in (with_replaced circuit new) state row signal)
    ⊎ ((driven_value (Some new) (value_in circuit state row)
    ≡ driven_value (Some old) (value_in circuit state row) → ⊥)
    × ((signal : List ℕ) → turned_values circuit new.output state row signal
    ≡ value_in (with_replaced circuit new) state row signal))

module _ (circuit : Circuit) (old new : Table) (settled : IsSettled circuit)
    (at : driver circuit.tables new.output ≡ Some old)
    (reads : (name : List ℕ) → has new.inputs name ≡ true → has old.inputs name ≡ true)
    (state row : List Bool) where
  abbrev leaves : Leaves
  leaves = leaves_of circuit state row

  abbrev value : List ℕ → Bool
  value = value_in circuit state row

  abbrev turned : List ℕ → Bool
  turned = turned_values circuit new.output state row

  turned_due : IsValued circuit.tables
      (fixed new.output (not (value new.output)) leaves) turned
  turned_due signal =
      valued circuit.tables (fixed new.output (not
      (value new.output)) leaves) settled.acyclic signal

  turned_own : turned new.output ≡ not (value new.output)
  turned_own =
      turned_due new.output
      ∙ ap (λ (bit : Option Bool). unwrap_or bit (driven_value (driver circuit.tables new.output)
      turned)) (fixed_own new.output (not (value new.output)) leaves)

  turned_other : (signal : List ℕ) → bytes_eq signal new.output ≡ false
      → turned signal ≡ due circuit.tables leaves turned signal
  turned_other signal apart =
      turned_due signal
      ∙ ap (λ (bit : Option Bool). unwrap_or bit (driven_value
      (driver circuit.tables signal) turned))
      (fixed_other new.output signal (not (value new.output)) leaves apart)

  -- below the signal nothing changes
  turned_below : (r : HasRank circuit.tables) (signal : List ℕ) → r.rank signal < r.rank new.output
      → turned signal ≡ value signal
  unfolding value_in
  turned_below r signal low =
      value_within (λ name. r.rank name < r.rank new.output) circuit.tables leaves settled.acyclic
      closed turned fits signal low
    where
      closed : (name : List ℕ) (table : Table) → r.rank name < r.rank new.output
          → driver circuit.tables name ≡ Some table
          → AllByRecursion (λ input. r.rank input < r.rank new.output) table.inputs
      closed name table within there =
          all_from_has (λ input. r.rank input < r.rank new.output) table.inputs (λ input among.
          let falls : r.rank input < r.rank name =
          all_has (λ other. r.rank other < r.rank name) table.inputs
          (r.falls name table there) input among in
          omega (arith, within))

      fits : (name : List ℕ) → r.rank name < r.rank new.output
          → turned name ≡ due circuit.tables leaves turned name
      fits name within =
          turned_other name (name_not name new.output (λ e.
          let same : r.rank name ≡ r.rank new.output = ap r.rank e in absurd (omega
          (arith, within))))

  inputs_stay : AllByRecursion (λ name. turned name ≡ value name) new.inputs
  inputs_stay =
      all_from_has (λ name. turned name ≡ value name) new.inputs (λ name among.
      turned_below ranked name
      (all_has (λ input. ranked.rank input < ranked.rank new.output) old.inputs
      (ranked.falls new.output old at) name (reads name among)))
    where
      ranked : HasRank circuit.tables
      ranked = acyclic_rank circuit.tables settled.acyclic

  -- a valuation that solves the equations of all other tables, and has the new table's value at its
  -- signal, is the new one
  made : (f : List ℕ → Bool)
      → ((signal : List ℕ) → bytes_eq signal new.output ≡ false
      → f signal ≡ due circuit.tables leaves f signal)
      → f new.output ≡ driven_value (Some new) f
      → (signal : List ℕ) → f signal ≡ value_in (with_replaced circuit new) state row signal
  unfolding with_replaced value_in
  made f others own signal =
      value_only (replaced circuit.tables new) leaves acyclic f
      (λ name. cases name (name_cases name new.output)) signal
      ∙ ap (λ (l : Leaves). signal_value (replaced circuit.tables new) l signal)
      (leaves_same circuit (with_replaced circuit new) refl refl state row)
    where
      acyclic : IsAcyclic (replaced circuit.tables new)
      acyclic = narrowed_acyclic circuit.tables old new settled.acyclic at reads

      cases : (name : List ℕ) → (name ≡ new.output) ⊎ (bytes_eq name new.output ≡ false)
          → f name ≡ due (replaced circuit.tables new) leaves f name
      cases name (inl here) =
          ap f here ∙ own
          ∙ sym (ap (λ (bit : Option Bool). unwrap_or bit (driven_value (Some new) f))
          (ap leaves here ∙ driven_free circuit settled state row new.output old at))
          ∙ sym (ap (λ (found : Option Table). unwrap_or (leaves name) (driven_value found f))
          (ap (driver (replaced circuit.tables new)) here
          ∙ driver_replaced_own circuit.tables new
          (driver_output circuit.tables new.output old at)))
      cases name (inr other) =
          others name other
          ∙ sym (ap (λ (found : Option Table). unwrap_or (leaves name) (driven_value found f))
          (driver_replaced_other circuit.tables new name other))

  -- where the tables have one value each signal keeps its own
  kept_each : driven_value (Some new) value ≡ driven_value (Some old) value
      → (signal : List ℕ) → value signal ≡ value_in (with_replaced circuit new) state row signal
  kept_each same signal =
      made value (λ name other. value_due circuit settled.acyclic state row name)
      (value_obeys circuit settled state row new.output old at ∙ sym same) signal

  -- and where they have not, each has its value with the signal complemented
  turned_each : driven_value (Some new) value ≡ not (driven_value (Some old) value)
      → (signal : List ℕ) → turned signal ≡ value_in (with_replaced circuit new) state row signal
  turned_each differs signal =
      made turned turned_other
      (turned_own
      ∙ ap not (value_obeys circuit settled state row new.output old at)
      ∙ sym differs
      ∙ sym (value_same new turned value inputs_stay)) signal

  pub either_each : KeepsOrTurns circuit old new state row
  either_each = cases (bits_or (driven_value (Some new) value) (driven_value (Some old) value))
    where
      apart : (a b : Bool) → a ≡ not b → a ≡ b → ⊥
      apart true true e f = cc
      apart true false e f = cc
      apart false true e f = cc
      apart false false e f = cc

      cases : (driven_value (Some new) value ≡ driven_value (Some old) value)
          ⊎ (driven_value (Some new) value ≡ not (driven_value (Some old) value))
          → KeepsOrTurns circuit old new state row
      cases (inl same) = inl (kept_each same)
      cases (inr other) = inr (apart _ _ other, turned_each other)
