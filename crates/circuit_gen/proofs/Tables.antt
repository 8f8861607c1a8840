-- Tables that are drawn: gates over two different signals before them.
use Rattle.std.proofs.Common.{◌≡◌, ℕ, zero, suc, ◌+◌, ◌%◌, ◌<◌, ◌==◌, Bool, true, false, List, [], ◌∷◌, map, refl, ap, ◌∙◌, inl, inr, if◌then◌else◌, arith}
use Rattle.std.specs.List.{range_with_len}
use Rattle.std.proofs.Math.Nat.{mod-eq_of_lt, mod_self}
use Rattle.std.proofs.lemmas.Bool.{cases_lt}
use Rattle.std.proofs.lemmas.Bool.Decides.{nat_tests}
use Rattle.circuit_model.specs.Counts.{IsSmallTable}
use Rattle.circuit_model.specs.Soundness.{IsShaped, outputs_of}
use Rattle.circuit_model.specs.declared.circuit.Table.{Table}
use Rattle.circuit_gen.specs.Draws.{next, drawn}
use Rattle.circuit_gen.specs.Generated.{signal, signals, gate_of, gate_table, second_of, number_at, table_behind, table_at}
use Rattle.circuit_gen.specs.declared.gates.Gate.{Gate}
use Rattle.circuit_gen.specs.declared.gates.Gate.TheVariants.{And, Nand, Or, Xor}

-- the table of an index, which reads two different signals before it
pub record IsGate (place : ℕ) (table : Table) : Type 0 where
  pub first : ℕ
  pub second : ℕ
  pub first_before : first < 24 + place
  pub second_before : second < 24 + place
  pub apart : first ≡ second → ⊥
  pub inputs : table.inputs ≡ signal first ∷ signal second ∷ []
  pub output : table.output ≡ signal (24 + place)
  pub shaped : IsShaped table
  pub small : IsSmallTable table

gate_shaped : (place first second : ℕ) (gate : Gate) → IsShaped (gate_table place first second gate)
gate_shaped place first second And = ((refl, tt), λ e. refl)
gate_shaped place first second Nand = ((refl, tt), λ e. cc)
gate_shaped place first second Or = ((refl, (refl, tt)), λ e. refl)
gate_shaped place first second Xor = ((refl, (refl, tt)), λ e. refl)

gate_small : (place first second : ℕ) (gate : Gate) → IsSmallTable (gate_table place first second gate)
gate_small place first second And = record { rows = omega arith; inputs = omega arith; widths = (omega arith, tt) }
gate_small place first second Nand = record { rows = omega arith; inputs = omega arith; widths = (omega arith, tt) }
gate_small place first second Or = record { rows = omega arith; inputs = omega arith; widths = (omega arith, (omega arith, tt)) }
gate_small place first second Xor = record { rows = omega arith; inputs = omega arith; widths = (omega arith, (omega arith, tt)) }

-- the next signal round about is another one
next_apart : (bound first : ℕ) → 1 < bound → first < bound → ((first + 1) % bound < bound) × (first ≡ (first + 1) % bound → ⊥)
next_apart bound first wide inside =
    elim (cases_lt (first + 1) bound) as (λ _. ((first + 1) % bound < bound) × (first ≡ (first + 1) % bound → ⊥)) [
      | inl within ↦ let is : (first + 1) % bound ≡ first + 1 = mod-eq_of_lt within in (omega arith, λ e. omega (arith, e))
      | inr over ↦
          let end : first + 1 ≡ bound = omega arith in
          let is : (first + 1) % bound ≡ 0 = ap (λ k. k % bound) end ∙ mod_self bound in
          (omega arith, λ e. omega (arith, e))
    ]

not_same : (second first : ℕ) → (second == first) ≡ false → first ≡ second → ⊥
not_same second first is e = grind (arith, nat_tests)

second_apart : (bound first second : ℕ) → 1 < bound → first < bound → second < bound → (second_of bound first second < bound) × (first ≡ second_of bound first second → ⊥)
second_apart bound first second wide inside within = cases (second == first) refl
  where
    cases : (b : Bool) → (second == first) ≡ b
        → ((if b then (first + 1) % bound else second) < bound) × (first ≡ (if b then (first + 1) % bound else second) → ⊥)
    cases true is = next_apart bound first wide inside
    cases false is = (within, not_same second first is)

drawn_below : (number bound : ℕ) → 0 < bound → drawn number bound < bound
unfolding drawn
drawn_below number bound some = omega arith

behind_gate : (number place : ℕ) → IsGate place (table_behind number place)
unfolding table_behind
behind_gate number place =
    let first = drawn (next number) (24 + place) in
    let second = drawn (next (next number)) (24 + place) in
    let before = drawn_below (next number) (24 + place) (omega arith) in
    let other = second_apart (24 + place) first second (omega arith) before (drawn_below (next (next number)) (24 + place) (omega arith)) in
    let gate = gate_of (drawn (next (next (next number))) 4) in record {
      first = first;
      second = second_of (24 + place) first second;
      first_before = before;
      second_before = other.0;
      apart = other.1;
      inputs = refl;
      output = refl;
      shaped = gate_shaped place first (second_of (24 + place) first second) gate;
      small = gate_small place first (second_of (24 + place) first second) gate;
    }

pub table_gate : (seed place : ℕ) → IsGate place (table_at seed place)
table_gate seed place = behind_gate (number_at seed place) place

-- the signals that the tables drive
pub outputs_are : (seed first count : ℕ) → outputs_of (map (table_at seed) (range_with_len first count)) ≡ signals (24 + first) count
outputs_are seed first zero = refl
outputs_are seed first (suc count) =
    let here : 24 + (first + 1) ≡ 24 + first + 1 = omega arith in
    ap (λ (name : List ℕ). name ∷ outputs_of (map (table_at seed) (range_with_len (first + 1) count))) (table_gate seed first).output
    ∙ ap (λ (rest : List (List ℕ)). signal (24 + first) ∷ rest) (outputs_are seed (first + 1) count ∙ ap (λ k. signals k count) here)
