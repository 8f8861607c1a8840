-- The circuit of a seed is sound, and within the limits of what is read.
use Rattle.std.proofs.Common.{◌≡◌, ℕ, zero, suc, ◌+◌, ◌^◌, ◌<◌, ◌≤◌, true, false, cond, Some, List, [], ◌∷◌, ◌++◌, map, bytes_eq, refl, sym, ap, ◌∙◌, subst, inl, inr, arith}
use Rattle.std.specs.List.{AllByRecursion, range_with_len}
use Rattle.std.proofs.lemmas.Bool.{cases_eq}
use Rattle.std.proofs.lemmas.List.FromFn.{length-map-range_with_len}
use Rattle.std.proofs.lemmas.Option.{none-some}
use Rattle.sis_base.specs.Written.{is_word}
use Rattle.sis_base.specs.declared.limits.TheConstants.{MAX_NODES}
use Rattle.circuit_model.specs.Names.{has, all_different}
use Rattle.circuit_model.specs.Counts.{IsSmallTable, IsWithinLimits}
use Rattle.circuit_model.specs.Values.{driver}
use Rattle.circuit_model.specs.Soundness.{names_of, table_inputs, given, taken, IsAcyclic, IsShaped, IsSound}
use Rattle.circuit_model.specs.declared.circuit.Table.{Table}
use Rattle.circuit_model.specs.declared.circuit.Latch.{Latch}
use Rattle.circuit_laws.proofs.Drivers.{driver_all, driver_name}
use Rattle.circuit_laws.proofs.Names.{name_itself, different_none, different_cons}
use Rattle.circuit_laws.proofs.Ranks.{rank_acyclic}
use Rattle.circuit_laws.proofs.Sound.{IsWord, HasWords, all_append, parts_words, names_each}
use Rattle.circuit_gen.specs.Generated.{signal, signals, table_at, latch_at, generated}
use Rattle.circuit_gen.proofs.Names.{signals_apart, signals_once, signals_joined, signal_word, has_signal, each_made}
use Rattle.circuit_gen.proofs.Tables.{IsGate, table_gate, outputs_are}

-- what holds of the signals before a table holds of its inputs
inputs_each : (P : List ℕ → Type 0) (place : ℕ) (table : Table) → IsGate place table → ((number : ℕ) → number < 24 + place → P (signal number)) → AllByRecursion P table.inputs
inputs_each P place table gate h =
    subst (λ (names : List (List ℕ)). AllByRecursion P names) (sym gate.inputs) (h gate.first gate.first_before, (h gate.second gate.second_before, tt))

output_is : (P : List ℕ → Type 0) (place : ℕ) (table : Table) → IsGate place table → P (signal (24 + place)) → P table.output
output_is P place table gate h = subst P (sym gate.output) h

inputs_once : (place : ℕ) (table : Table) → place < 2 ^ 32 → IsGate place table → all_different table.inputs ≡ true
inputs_once place table few gate =
    ap all_different gate.inputs
    ∙ different_cons (signal gate.first) (signal gate.second ∷ [])
    (rw (signals_apart gate.first gate.second (omega (arith, gate.first_before)) (omega (arith, gate.second_before)) gate.apart) refl)
    (different_cons (signal gate.second) [] refl different_none)

-- the number of a signal, by its index among all of them
place_in : List (List ℕ) → List ℕ → ℕ
place_in [] name = 0
place_in (first ∷ names) name = cond (bytes_eq name first) 0 (suc (place_in names name))

place_is : (number first count : ℕ) → first ≤ number → number < first + count → first + count ≤ 2 ^ 40 → place_in (signals first count) (signal number) + first ≡ number
unfolding place_in
place_is number first zero from below few = absurd (omega arith)
place_is number first (suc count) from below few =
    elim (cases_eq number first) as (λ _. place_in (signals first (suc count)) (signal number) + first ≡ number) [
      | inl here ↦
          let same : bytes_eq (signal number) (signal first) ≡ true = subst (λ n. bytes_eq (signal number) (signal n) ≡ true) here (name_itself (signal number)) in
          rw same (omega arith)
      | inr other ↦
          let apart : bytes_eq (signal number) (signal first) ≡ false = signals_apart number first (omega arith) (omega arith) other in
          let rest = place_is number (first + 1) count (omega arith) (omega arith) (omega arith) in
          rw apart (omega arith)
    ]

-- what holds of the input of each latch
inputs_of : (P : List ℕ → Type 0) (latches : List Latch) → AllByRecursion (λ (latch : Latch). P latch.input) latches → AllByRecursion P (map (λ (latch : Latch). latch.input) latches)
inputs_of P [] h = tt
inputs_of P (latch ∷ latches) h = (h.0, inputs_of P latches h.1)

no_cycle : IsAcyclic []
unfolding driver
no_cycle = rank_acyclic [] (record { rank = λ name. 0; falls = λ name table at. absurd (none-some table at) })

module _ (seed tables : ℕ) (few : tables < 2 ^ 32) where
  -- what holds of each table that is a gate over signals before it
  each_gate : (P : Table → Type 0) → ((place : ℕ) (table : Table) → place < tables → IsGate place table → P table) → AllByRecursion P (map (table_at seed) (range_with_len 0 tables))
  each_gate P h =
      each_made P (table_at seed) 0 tables (λ place from below. h place (table_at seed place) (omega arith) (table_gate seed place))

  given_are : given (generated seed tables) ≡ signals 0 (24 + tables)
  unfolding generated given
  given_are =
      ap (λ (outputs : List (List ℕ)). signals 0 16 ++ (signals 16 8 ++ outputs)) (outputs_are seed 0 tables)
      ∙ (ap (λ (rest : List (List ℕ)). signals 0 16 ++ rest) (signals_joined 16 8 tables)
      ∙ (signals_joined 0 16 (8 + tables) ∙ ap (signals 0) (let e : 16 + (8 + tables) ≡ 24 + tables = omega arith in e)))

  is_given : (number : ℕ) → number < 24 + tables → has (given (generated seed tables)) (signal number) ≡ true
  is_given number below =
      subst (λ (names : List (List ℕ)). has names (signal number) ≡ true) (sym given_are) (has_signal number 0 (24 + tables) (omega arith) (omega arith))

  rank : List ℕ → ℕ
  rank name = place_in (signals 0 (24 + tables)) name

  rank_is : (number : ℕ) → number < 24 + tables → rank (signal number) ≡ number
  unfolding rank
  rank_is number below = let is = place_is number 0 (24 + tables) (omega arith) (omega arith) (omega arith) in omega arith

  falls : (signal : List ℕ) (table : Table) → driver (map (table_at seed) (range_with_len 0 tables)) signal ≡ Some table
      → AllByRecursion (λ input. rank input < rank signal) table.inputs
  falls name table at =
      subst (λ (output : List ℕ). AllByRecursion (λ input. rank input < rank output) table.inputs)
      (driver_name (map (table_at seed) (range_with_len 0 tables)) name table at)
      (driver_all (λ (t : Table). AllByRecursion (λ input. rank input < rank t.output) t.inputs) (map (table_at seed) (range_with_len 0 tables))
      (each_gate (λ (t : Table). AllByRecursion (λ input. rank input < rank t.output) t.inputs) one) name table at)
    where
      one : (place : ℕ) (t : Table) → place < tables → IsGate place t → AllByRecursion (λ input. rank input < rank t.output) t.inputs
      one place t inside gate =
          inputs_each (λ input. rank input < rank t.output) place t gate
          (λ number before.
          let own : rank t.output ≡ 24 + place = ap rank gate.output ∙ rank_is (24 + place) (omega arith) in
          let its : rank (signal number) ≡ number = rank_is number (omega (arith, before)) in
          omega (arith, before))

  words : AllByRecursion IsWord (names_of (map (table_at seed) (range_with_len 0 tables)))
  words =
      names_each IsWord (λ (t : Table). t.output ∷ t.inputs) (map (table_at seed) (range_with_len 0 tables))
      (each_gate (λ (t : Table). AllByRecursion IsWord (t.output ∷ t.inputs)) (λ place t inside gate. (
        output_is IsWord place t gate (signal_word (24 + place) (omega (arith, inside))),
        inputs_each IsWord place t gate (λ number before. signal_word number (omega (arith, inside, before))),
      )))

  signals_words : (first count : ℕ) → first + count ≤ 2 ^ 40 → AllByRecursion IsWord (signals first count)
  signals_words first count small = each_made IsWord signal first count (λ number from below. signal_word number (omega (arith, below)))

  each_latch_input : (P : List ℕ → Type 0) → ((number : ℕ) → number < 24 + tables → P (signal number)) → AllByRecursion P (map (λ (latch : Latch). latch.input) (map (latch_at tables) (range_with_len 0 8)))
  each_latch_input P h =
      inputs_of P (map (latch_at tables) (range_with_len 0 8))
      (each_made (λ (latch : Latch). P latch.input) (latch_at tables) 0 8 (λ place from below. h (16 + tables + place) (omega (arith, below))))

  has_words : HasWords (generated seed tables)
  unfolding generated is_word
  has_words = record {
    name = refl;
    inputs = signals_words 0 16 (omega arith);
    outputs = signals_words (16 + tables) 8 (omega arith);
    clocks = tt;
    control = tt;
    latch_outputs = signals_words 16 8 (omega arith);
    latch_inputs = each_latch_input IsWord (λ number below. signal_word number (omega (arith, below)));
    tables = words;
    dont_care = tt;
  }

  abbrev IsGiven : List ℕ → Type 0
  IsGiven name = has (given (generated seed tables)) name ≡ true

  driven : AllByRecursion (λ name. has (given (generated seed tables)) name ≡ true) (taken (generated seed tables))
  unfolding taken generated
  driven =
      all_append IsGiven (table_inputs (map (table_at seed) (range_with_len 0 tables))) _
      (names_each IsGiven (λ (t : Table). t.inputs) (map (table_at seed) (range_with_len 0 tables))
      (each_gate (λ (t : Table). AllByRecursion IsGiven t.inputs)
      (λ place t inside gate. inputs_each IsGiven place t gate (λ number before. is_given number (omega (arith, inside, before))))))
      (all_append IsGiven (map (λ (latch : Latch). latch.input) (map (latch_at tables) (range_with_len 0 8))) (signals (16 + tables) 8)
      (each_latch_input IsGiven is_given)
      (each_made IsGiven signal (16 + tables) 8 (λ number from below. is_given number (omega (arith, below)))))

  pub sound : IsSound (generated seed tables)
  unfolding generated
  sound = record {
    words = parts_words (generated seed tables) has_words;
    inputs_once = signals_once 0 16 (omega arith);
    outputs_once = signals_once (16 + tables) 8 (omega arith);
    one_driver = ap all_different given_are ∙ signals_once 0 (24 + tables) (omega arith);
    driven = driven;
    inits = (omega arith, (omega arith, (omega arith, (omega arith, (omega arith, (omega arith, (omega arith, (omega arith, tt))))))));
    untimed_without_latches = λ none. refl;
    shaped = each_gate IsShaped (λ place t inside gate. gate.shaped);
    table_inputs_once = each_gate (λ (t : Table). all_different t.inputs ≡ true) (λ place t inside gate. inputs_once place t (omega (arith, inside)) gate);
    acyclic = rank_acyclic (map (table_at seed) (range_with_len 0 tables)) (record { rank = rank; falls = falls });
    control_undriven = tt;
    control_not_nil = refl;
    dont_care_once = different_none;
    dont_care_known = tt;
    dont_care_acyclic = no_cycle;
    dont_care_shaped = tt;
  }

pub within_limits : (seed tables : ℕ) → tables + 8 ≤ MAX_NODES → IsWithinLimits (generated seed tables)
unfolding generated
within_limits seed tables few = record {
  nodes = omega (arith, length-map-range_with_len (table_at seed) 0 tables);
  tables = each_made IsSmallTable (table_at seed) 0 tables (λ place from below. (table_gate seed place).small);
  dont_care = tt;
}
