-- Remaining signals keep their values, edit after edit.
use Rattle.std.proofs.Common.{◌≡◌, ℕ, suc, Bool, true, false, ◌&&◌, cond, Some, List, [], ◌∷◌, ◌++◌, map, length, bytes_eq, refl, sym, ap, ◌∙◌, subst, inl, inr, arith}
use Rattle.std.specs.List.{AllByRecursion}
use Rattle.std.proofs.lemmas.Bool.{false≢true, and_parts, or_cases}
use Rattle.circuit_model.specs.Names.{has}
use Rattle.circuit_model.specs.Runs.{bit_of, latch_outputs, value_in}
use Rattle.circuit_model.specs.Soundness.{outputs_of, given, IsAcyclic, IsSound}
use Rattle.circuit_model.specs.declared.circuit.Latch.{Latch}
use Rattle.circuit_model.specs.declared.circuit.Circuit.{Circuit}
use Rattle.circuit_laws.specs.Edits.{tables_kept, latches_kept, with_kept, with_added, with_fixed, is_other, constant_table}
use Rattle.circuit_laws.specs.Fixed.{IsFixed}
use Rattle.circuit_laws.specs.Kept.{IsClosed, bits_kept}
use Rattle.circuit_laws.specs.Left.{ConstantLatch, state_left, KeepsLeft}
use Rattle.circuit_laws.specs.Same.{KeepsEach}
use Rattle.circuit_laws.proofs.Names.{same_name, has_head, has_tail, has_front, has_back, has_either}
use Rattle.circuit_laws.proofs.Kept.{all_weaker, bit_kept, bits_all, latches_all, has_tables_kept, has_latches_kept, kept_keeps}
use Rattle.circuit_laws.proofs.Sound.{all_append, all_parts, given-added}
use Rattle.circuit_laws.proofs.FixedSound.{sound_values}

-- two tests that agree at each latch keep the same
latches_agree : (some others : List ℕ → Bool) (latches : List Latch) → AllByRecursion (λ (latch : Latch). some latch.output ≡ others latch.output) latches → latches_kept some latches ≡ latches_kept others latches
unfolding latches_kept
latches_agree some others [] h = refl
latches_agree some others (latch ∷ latches) h = rw (h.0, latches_agree some others latches h.1) refl

bits_agree : (some others : List ℕ → Bool) (latches : List Latch) (bits : List Bool) → AllByRecursion (λ (latch : Latch). some latch.output ≡ others latch.output) latches
    → bits_kept some latches bits ≡ bits_kept others latches bits
unfolding bits_kept
bits_agree some others [] bits h = refl
bits_agree some others (latch ∷ latches) [] h = refl
bits_agree some others (latch ∷ latches) (bit ∷ bits) h = rw (h.0, bits_agree some others latches bits h.1) refl

-- what remains of what remained
latches_twice : (some fewer : List ℕ → Bool) → ((name : List ℕ) → fewer name ≡ true → some name ≡ true) → (latches : List Latch) → latches_kept fewer (latches_kept some latches) ≡ latches_kept fewer latches
unfolding latches_kept
latches_twice some fewer within [] = refl
latches_twice some fewer within (latch ∷ latches) = cases (some latch.output) refl (fewer latch.output) refl (latches_twice some fewer within latches)
  where
    cases : (k : Bool) → some latch.output ≡ k → (f : Bool) → fewer latch.output ≡ f → latches_kept fewer (latches_kept some latches) ≡ latches_kept fewer latches
        → latches_kept fewer (cond k (latch ∷ latches_kept some latches) (latches_kept some latches)) ≡ cond f (latch ∷ latches_kept fewer latches) (latches_kept fewer latches)
    cases true stays true left rest = rw (left, rest) refl
    cases true stays false goes rest = rw (goes, rest) refl
    cases false gone true left rest = absurd (false≢true (sym gone ∙ within latch.output left))
    cases false gone false goes rest = rest

bits_twice : (some fewer : List ℕ → Bool) → ((name : List ℕ) → fewer name ≡ true → some name ≡ true) → (latches : List Latch) (bits : List Bool)
    → bits_kept fewer (latches_kept some latches) (bits_kept some latches bits) ≡ bits_kept fewer latches bits
unfolding latches_kept bits_kept
bits_twice some fewer within [] bits = refl
bits_twice some fewer within (latch ∷ latches) [] = none (latches_kept some (latch ∷ latches))
  where
    none : (left : List Latch) → bits_kept fewer left [] ≡ []
    none [] = refl
    none (first ∷ left) = refl
bits_twice some fewer within (latch ∷ latches) (bit ∷ bits) = cases (some latch.output) refl (fewer latch.output) refl (bits_twice some fewer within latches bits)
  where
    cases : (k : Bool) → some latch.output ≡ k → (f : Bool) → fewer latch.output ≡ f → bits_kept fewer (latches_kept some latches) (bits_kept some latches bits) ≡ bits_kept fewer latches bits
        → bits_kept fewer (cond k (latch ∷ latches_kept some latches) (latches_kept some latches)) (cond k (bit ∷ bits_kept some latches bits) (bits_kept some latches bits))
        ≡ cond f (bit ∷ bits_kept fewer latches bits) (bits_kept fewer latches bits)
    cases true stays true left rest = rw (left, rest) refl
    cases true stays false goes rest = rw (goes, rest) refl
    cases false gone true left rest = absurd (false≢true (sym gone ∙ within latch.output left))
    cases false gone false goes rest = rest

pub bits_long : (test : List ℕ → Bool) (latches : List Latch) (bits : List Bool) → length bits ≡ length latches → length (bits_kept test latches bits) ≡ length (latches_kept test latches)
unfolding latches_kept bits_kept
bits_long test [] bits e = refl
bits_long test (latch ∷ latches) [] e = absurd (omega arith)
bits_long test (latch ∷ latches) (bit ∷ bits) e = cases (test latch.output) (bits_long test latches bits (omega arith))
  where
    cases : (k : Bool) → length (bits_kept test latches bits) ≡ length (latches_kept test latches)
        → length (cond k (bit ∷ bits_kept test latches bits) (bits_kept test latches bits)) ≡ length (cond k (latch ∷ latches_kept test latches) (latches_kept test latches))
    cases true rest = ap suc rest
    cases false rest = rest

-- each latch has its name among the latches' names
own_latches : (circuit : Circuit) → AllByRecursion (λ (latch : Latch). has (latch_outputs circuit) latch.output ≡ true) circuit.latches
own_latches circuit = each circuit.latches (λ name h. h)
  where
    each : (latches : List Latch) → ((name : List ℕ) → has (map (λ (latch : Latch). latch.output) latches) name ≡ true → has (latch_outputs circuit) name ≡ true)
        → AllByRecursion (λ (latch : Latch). has (latch_outputs circuit) latch.output ≡ true) latches
    each [] within = tt
    each (latch ∷ latches) within =
        (within latch.output (has_head latch.output (map (λ (l : Latch). l.output) latches)), each latches (λ name h. within name (has_tail latch.output (map (λ (l : Latch). l.output) latches) name h)))

own_within : (old new : Circuit) → old.latches ≡ new.latches → AllByRecursion (λ (latch : Latch). has (latch_outputs new) latch.output ≡ true) old.latches
own_within old new same =
    subst (λ (latches : List Latch). AllByRecursion (λ (latch : Latch). has (map (λ (l : Latch). l.output) latches) latch.output ≡ true) old.latches) same (own_latches old)

-- the same latches
pub all_left : (old new : Circuit) → old.latches ≡ new.latches → (state : List Bool) → length state ≡ length old.latches → state_left old new state ≡ state
all_left old new same state long = bits_all (has (latch_outputs new)) old.latches state (own_within old new same) long

-- tables change, and no signal is added
pub each_left : (old new : Circuit) → KeepsEach old new → ((signal : List ℕ) → has (given new) signal ≡ true → has (given old) signal ≡ true) → KeepsLeft [] old new
each_left old new each signals = record {
  inputs = each.same.inputs;
  latches = sym each.same.latches ∙ sym (latches_all (has (latch_outputs new)) old.latches (own_within old new each.same.latches));
  signals = signals;
  among = tt;
  kept = λ state row a held signal there.
      each.values state row signal ∙ sym (ap (λ (s : List Bool). value_in new s row signal) (all_left old new each.same.latches state a.0));
}

pub left_itself : (circuit : Circuit) → KeepsLeft [] circuit circuit
left_itself circuit = record {
  inputs = refl;
  latches = sym (latches_all (has (latch_outputs circuit)) circuit.latches (own_latches circuit));
  signals = λ signal h. h;
  among = tt;
  kept = λ state row a held signal there. sym (ap (λ (s : List Bool). value_in circuit s row signal) (all_left circuit circuit refl state a.0));
}

-- edit after edit
latch_before : (old new : Circuit) → new.latches ≡ latches_kept (has (latch_outputs new)) old.latches → (name : List ℕ) → has (latch_outputs new) name ≡ true → has (latch_outputs old) name ≡ true
latch_before old new latches name h =
    (and_parts (has (latch_outputs new) name) (has (latch_outputs old) name)
    (sym (has_latches_kept (has (latch_outputs new)) old.latches name) ∙ sym (ap (λ (all : List Latch). has (map (λ (l : Latch). l.output) all) name) latches) ∙ h)).1

pub left_through : (before after : List ConstantLatch) (first second third : Circuit) → KeepsLeft before first second → KeepsLeft after second third → KeepsLeft (before ++ after) first third
left_through before after first second third p q = record {
  inputs = p.inputs ∙ q.inputs;
  latches = q.latches ∙ ap (latches_kept (has (latch_outputs third))) p.latches ∙ latches_twice (has (latch_outputs second)) (has (latch_outputs third)) (latch_before second third q.latches) first.latches;
  signals = λ signal h. p.signals signal (q.signals signal h);
  among = all_append (λ (latch : ConstantLatch). has (latch_outputs first) latch.0 ≡ true) before after p.among
      (all_weaker (λ (latch : ConstantLatch). has (latch_outputs second) latch.0 ≡ true) (λ (latch : ConstantLatch). has (latch_outputs first) latch.0 ≡ true)
      (λ latch h. latch_before first second p.latches latch.0 h) after q.among);
  kept = λ state row a held signal there.
      let parts = all_parts (λ (latch : ConstantLatch). bit_of (latch_outputs first) state latch.0 ≡ Some latch.1) before after held in
      p.kept state row a parts.0 signal (q.signals signal there)
      ∙ q.kept (state_left first second state) row
      (bits_long (has (latch_outputs second)) first.latches state a.0 ∙ ap length (sym p.latches), a.1 ∙ ap length p.inputs)
      (bits_held after state q.among parts.1) signal there
      ∙ ap (λ (s : List Bool). value_in third s row signal) (state_twice state);
}
  where
    bits_held : (held : List ConstantLatch) (state : List Bool) → AllByRecursion (λ (latch : ConstantLatch). has (latch_outputs second) latch.0 ≡ true) held
        → AllByRecursion (λ (latch : ConstantLatch). bit_of (latch_outputs first) state latch.0 ≡ Some latch.1) held
        → AllByRecursion (λ (latch : ConstantLatch). bit_of (latch_outputs second) (state_left first second state) latch.0 ≡ Some latch.1) held
    bits_held [] state among bits = tt
    bits_held (latch ∷ held) state among bits = (
      ap (λ (all : List Latch). bit_of (map (λ (l : Latch). l.output) all) (state_left first second state) latch.0) p.latches
          ∙ bit_kept (has (latch_outputs second)) first.latches state latch.0 among.0 ∙ bits.0,
      bits_held held state among.1 bits.1,
    )

    state_twice : (state : List Bool) → state_left second third (state_left first second state) ≡ state_left first third state
    state_twice state =
        ap (λ (all : List Latch). bits_kept (has (latch_outputs third)) all (state_left first second state)) p.latches
        ∙ bits_twice (has (latch_outputs second)) (has (latch_outputs third)) (latch_before second third q.latches) first.latches state

-- tables and latches are removed
kept_test : (circuit : Circuit) (test : List ℕ → Bool) → AllByRecursion (λ (latch : Latch). has (latch_outputs (with_kept circuit test)) latch.output ≡ test latch.output) circuit.latches
unfolding with_kept
kept_test circuit test =
    all_weaker (λ (latch : Latch). has (latch_outputs circuit) latch.output ≡ true) (λ (latch : Latch). has (latch_outputs (with_kept circuit test)) latch.output ≡ test latch.output)
    (λ latch there. has_latches_kept test circuit.latches latch.output ∙ and_true (test latch.output) (has (latch_outputs circuit) latch.output) there) circuit.latches (own_latches circuit)
  where
    and_true : (x y : Bool) → y ≡ true → (x && y) ≡ x
    and_true true y h = h
    and_true false y h = refl

given_before : (circuit : Circuit) (test : List ℕ → Bool) (signal : List ℕ) → has (given (with_kept circuit test)) signal ≡ true → has (given circuit) signal ≡ true
unfolding given with_kept
given_before circuit test signal h =
    elim (has_either circuit.inputs (latch_outputs (with_kept circuit test) ++ outputs_of (tables_kept test circuit.tables)) signal h) as (λ _. has (given circuit) signal ≡ true) [
      | inl input ↦ has_front circuit.inputs (latch_outputs circuit ++ outputs_of circuit.tables) signal input
      | inr other ↦
          has_back circuit.inputs (latch_outputs circuit ++ outputs_of circuit.tables) signal
          (elim (has_either (latch_outputs (with_kept circuit test)) (outputs_of (tables_kept test circuit.tables)) signal other) as (λ _. has (latch_outputs circuit ++ outputs_of circuit.tables) signal ≡ true) [
            | inl latch ↦
                has_front (latch_outputs circuit) (outputs_of circuit.tables) signal
                (and_parts (test signal) (has (latch_outputs circuit) signal) (sym (has_latches_kept test circuit.latches signal) ∙ latch)).1
            | inr table ↦
                has_back (latch_outputs circuit) (outputs_of circuit.tables) signal
                (and_parts (test signal) (has (outputs_of circuit.tables) signal) (sym (has_tables_kept test circuit.tables signal) ∙ table)).1
          ])
    ]

pub kept_left : (circuit : Circuit) (test : List ℕ → Bool) → IsAcyclic circuit.tables → IsClosed circuit test → KeepsLeft [] circuit (with_kept circuit test)
unfolding with_kept
kept_left circuit test acyclic closed = record {
  inputs = refl;
  latches = sym (latches_agree (has (latch_outputs (with_kept circuit test))) test circuit.latches (kept_test circuit test));
  signals = given_before circuit test;
  among = tt;
  kept = λ state row a held signal there.
      kept_keeps circuit test acyclic closed state row a signal there
      ∙ sym (ap (λ (s : List Bool). value_in (with_kept circuit test) s row signal) (bits_agree (has (latch_outputs (with_kept circuit test))) test circuit.latches state (kept_test circuit test)));
}

-- a latch that always holds one bit becomes a table
given_fixed : (circuit : Circuit) (name : List ℕ) (bit : Bool) → has (latch_outputs circuit) name ≡ true → (signal : List ℕ) → has (given (with_fixed circuit name bit)) signal ≡ true → has (given circuit) signal ≡ true
unfolding given with_fixed
given_fixed circuit name bit latch signal h =
    elim (has_either (given (with_kept circuit (is_other name))) (name ∷ []) signal
    (ap (λ (names : List (List ℕ)). has names signal) (sym (given-added (with_kept circuit (is_other name)) (constant_table name bit))) ∙ h)) as (λ _. has (given circuit) signal ≡ true) [
      | inl before ↦ given_before circuit (is_other name) signal before
      | inr own ↦
          elim (or_cases (bytes_eq signal name) false own) as (λ _. has (given circuit) signal ≡ true) [
            | inl same ↦
                has_back circuit.inputs (latch_outputs circuit ++ outputs_of circuit.tables) signal
                (has_front (latch_outputs circuit) (outputs_of circuit.tables) signal (subst (λ (x : List ℕ). has (latch_outputs circuit) x ≡ true) (sym (same_name signal name same)) latch))
            | inr nowhere ↦ absurd (false≢true nowhere)
          ]
    ]

pub fixed_left : (circuit : Circuit) (name : List ℕ) (bit : Bool) → IsSound circuit → IsFixed circuit name bit → KeepsLeft ((name, bit) ∷ []) circuit (with_fixed circuit name bit)
unfolding with_fixed with_added with_kept
fixed_left circuit name bit sound fixed = record {
  inputs = refl;
  latches = sym (latches_agree (has (latch_outputs (with_kept circuit (is_other name)))) (is_other name) circuit.latches (kept_test circuit (is_other name)));
  signals = given_fixed circuit name bit fixed.latch;
  among = (fixed.latch, tt);
  kept = λ state row a held signal there.
      sound_values circuit name bit sound fixed state row held.0 signal
      ∙ sym (ap (λ (s : List Bool). value_in (with_fixed circuit name bit) s row signal)
      (bits_agree (has (latch_outputs (with_kept circuit (is_other name)))) (is_other name) circuit.latches state (kept_test circuit (is_other name))));
}
