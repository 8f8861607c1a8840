-- Latches that became constants keep their bits, step after step of the circuit.
use Rattle.std.proofs.Common.{◌≡◌, ℕ, Bool, true, false, cond, Some, List, [], ◌∷◌, ◌++◌, map, filter, length, refl, sym, ap, ◌∙◌, subst}
use Rattle.std.specs.List.{AllByRecursion}
use Rattle.std.proofs.lemmas.Bool.{false≢true}
use Rattle.circuit_model.specs.Names.{has}
use Rattle.circuit_model.specs.Runs.{bit_of, latch_outputs, value_in, next_state}
use Rattle.circuit_model.specs.Soundness.{latch_inputs, table_inputs, given, taken, IsSound}
use Rattle.circuit_model.specs.declared.circuit.Latch.{Latch}
use Rattle.circuit_model.specs.declared.circuit.Circuit.{Circuit}
use Rattle.circuit_laws.specs.Edits.{latches_kept}
use Rattle.circuit_laws.specs.Left.{ConstantLatch, state_left, KeepsLeft}
use Rattle.circuit_laws.specs.Same.{IsAssignment}
use Rattle.circuit_laws.proofs.Kept.{all_weaker, bit_kept, kept_next}
use Rattle.circuit_laws.proofs.Left.{bits_long}
use Rattle.circuit_laws.proofs.Sound.{all_append, all_parts}
use Rattle.net_wires.specs.Keeping.{HaveBits}

-- what holds of all that pass a test
all_passing : {X : Type 0} (P : X → Type 0) (p : X → Bool) (xs : List X) → AllByRecursion P (filter p xs) → AllByRecursion (λ x. p x ≡ true → P x) xs
all_passing P p [] all = tt
all_passing {X} P p (x ∷ xs) all = cases (p x) refl all (all_passing P p xs)
  where
    cases : (t : Bool) → p x ≡ t → AllByRecursion P (cond t (x ∷ filter p xs) (filter p xs))
        → (AllByRecursion P (filter p xs) → AllByRecursion (λ (y : X). p y ≡ true → P y) xs) → AllByRecursion (λ (y : X). p y ≡ true → P y) (x ∷ xs)
    cases true e h rest = (λ passes. h.0, rest h.1)
    cases false e h rest = (λ passes. absurd (false≢true (sym e ∙ passes)), rest h)

-- the input of each latch of a sound circuit is driven
abbrev IsDriven : Circuit → List ℕ → Type 0
IsDriven circuit name = has (given circuit) name ≡ true

inputs_driven : (circuit : Circuit) → IsSound circuit → AllByRecursion (λ (latch : Latch). IsDriven circuit latch.input) circuit.latches
unfolding taken
inputs_driven circuit sound =
    let parts = all_parts (IsDriven circuit) (table_inputs circuit.tables) (latch_inputs circuit ++ circuit.outputs) sound.driven in
    each circuit.latches (all_parts (IsDriven circuit) (latch_inputs circuit) circuit.outputs parts.1).0
  where
    each : (latches : List Latch) → AllByRecursion (IsDriven circuit) (map (λ (latch : Latch). latch.input) latches) → AllByRecursion (λ (latch : Latch). IsDriven circuit latch.input) latches
    each [] all = tt
    each (latch ∷ latches) all = (all.0, each latches all.1)

-- a latch that is left has its bit in what is left of a state
left_bit : (first second : Circuit) → second.latches ≡ latches_kept (has (latch_outputs second)) first.latches → (state : List Bool) (name : List ℕ) → has (latch_outputs second) name ≡ true
    → bit_of (latch_outputs second) (state_left first second state) name ≡ bit_of (latch_outputs first) state name
left_bit first second latches state name there =
    ap (λ (all : List Latch). bit_of (map (λ (l : Latch). l.output) all) (state_left first second state) name) latches ∙ bit_kept (has (latch_outputs second)) first.latches state name there

left_bits : (held : List ConstantLatch) (first second : Circuit) → second.latches ≡ latches_kept (has (latch_outputs second)) first.latches → (state : List Bool)
    → AllByRecursion (λ (latch : ConstantLatch). has (latch_outputs second) latch.0 ≡ true) held → HaveBits first held state → HaveBits second held (state_left first second state)
left_bits [] first second latches state among bits = tt
left_bits (latch ∷ held) first second latches state among bits = (left_bit first second latches state latch.0 among.0 ∙ bits.0, left_bits held first second latches state among.1 bits.1)

bits_before : (held : List ConstantLatch) (first second : Circuit) → second.latches ≡ latches_kept (has (latch_outputs second)) first.latches → (state : List Bool)
    → AllByRecursion (λ (latch : ConstantLatch). has (latch_outputs second) latch.0 ≡ true) held → HaveBits second held (state_left first second state) → HaveBits first held state
bits_before [] first second latches state among bits = tt
bits_before (latch ∷ held) first second latches state among bits = (sym (left_bit first second latches state latch.0 among.0) ∙ bits.0, bits_before held first second latches state among.1 bits.1)

-- what is left of the next state is the next state of what is left
next_left : (held : List ConstantLatch) (first second : Circuit) → IsSound second → KeepsLeft held first second → (state row : List Bool) → IsAssignment first state row → HaveBits first held state
    → state_left first second (next_state first state row) ≡ next_state second (state_left first second state) row
unfolding next_state latches_kept
next_left held first second sound left state row a bits =
    kept_next (has (latch_outputs second)) (value_in first state row) (value_in second (state_left first second state) row) first.latches
    (all_weaker (λ (latch : Latch). has (latch_outputs second) latch.output ≡ true → IsDriven second latch.input)
    (λ (latch : Latch). has (latch_outputs second) latch.output ≡ true → value_in first state row latch.input ≡ value_in second (state_left first second state) row latch.input)
    (λ latch driven there. left.kept state row a bits latch.input (driven there)) first.latches
    (all_passing (λ (latch : Latch). IsDriven second latch.input) (λ (latch : Latch). has (latch_outputs second) latch.output) first.latches
    (subst (AllByRecursion (λ (latch : Latch). IsDriven second latch.input)) left.latches (inputs_driven second sound))))
    ∙ ap (map (λ (latch : Latch). value_in second (state_left first second state) row latch.input)) (sym left.latches)

abbrev Stay : List ConstantLatch → Circuit → Type 0
Stay held circuit = (state row : List Bool) → IsAssignment circuit state row → HaveBits circuit held state → HaveBits circuit held (next_state circuit state row)

-- edit after edit
pub stays_through : (before after : List ConstantLatch) (first second : Circuit) → IsSound second → KeepsLeft before first second
    → AllByRecursion (λ (latch : ConstantLatch). has (latch_outputs second) latch.0 ≡ true) after → Stay before first → Stay after second → Stay (before ++ after) first
stays_through before after first second sound left among old new state row a bits =
    let parts = all_parts (λ (latch : ConstantLatch). bit_of (latch_outputs first) state latch.0 ≡ Some latch.1) before after bits in
    all_append (λ (latch : ConstantLatch). bit_of (latch_outputs first) (next_state first state row) latch.0 ≡ Some latch.1) before after (old state row a parts.0)
    (bits_before after first second left.latches (next_state first state row) among
    (subst (HaveBits second after) (sym (next_left before first second sound left state row a parts.0))
    (new (state_left first second state) row
    (bits_long (has (latch_outputs second)) first.latches state a.0 ∙ ap length (sym left.latches), a.1 ∙ ap length left.inputs)
    (left_bits after first second left.latches state among parts.1))))
