-- A circuit as a machine: its steps, its start states, its runs, and so its behavior, which may
-- replace another one's. Source: BLIF appendix of the SIS report (UCB/ERL M92/41), `.latch` and
-- `.exdc`; De Micheli, "Synthesis and Optimization of Digital Circuits", chapter 9 (synchronous
-- circuits as finite-state machines). Leaves are the inputs and the latch outputs. A row gives the
-- inputs' bits, a state those of the latches, each in the order of its list.
use Rattle.std.specs.Prelude.{◌≡◌, ℕ, zero, suc, Bool, true, false, Option, Some, None, List, [], ◌∷◌, map, length, bytes_eq, if◌then◌else◌}
use Rattle.std.specs.List.{AllZip}
use Rattle.std.specs.Option.{option_or}
use Rattle.circuit_model.specs.Behaviors.{Behavior, RefinesAs}
use Rattle.circuit_model.specs.Values.{Leaves, signal_value, is_free_under}
use Rattle.circuit_model.specs.declared.circuit.Tri.{Tri}
use Rattle.circuit_model.specs.declared.circuit.Tri.TheVariants.{Zero, One, Free}
use Rattle.circuit_model.specs.declared.circuit.Latch.{Latch}
use Rattle.circuit_model.specs.declared.circuit.Circuit.{Circuit}

-- the bit of a name, at the index of that name
unfoldable pub bit_of : List (List ℕ) → List Bool → List ℕ → Option Bool
bit_of [] bits name = None
bit_of (first ∷ names) [] name = None
bit_of (first ∷ names) (bit ∷ bits) name = if bytes_eq name first then Some bit else bit_of names bits name

-- the signals that latches drive
abbrev pub latch_outputs : Circuit → List (List ℕ)
latch_outputs circuit = map (λ (latch : Latch). latch.output) circuit.latches

-- the leaves' bits in a state under an input row
unfoldable pub leaves_of : Circuit → List Bool → List Bool → Leaves
leaves_of circuit state row name = option_or (bit_of circuit.inputs row name) (bit_of (latch_outputs circuit) state name)

-- the value of a signal of the circuit
unfoldable pub value_in : Circuit → List Bool → List Bool → List ℕ → Bool
value_in circuit state row signal = signal_value circuit.tables (leaves_of circuit state row) signal

-- whether the don't-care part leaves an output open here: it has a table of that name, and this
-- table is 1
unfoldable pub is_free : Circuit → List Bool → List Bool → List ℕ → Bool
is_free circuit state row output = is_free_under circuit.dont_care (leaves_of circuit state row) output

-- a bit as a character: 1 or 0
abbrev pub tri_of : Bool → Tri
tri_of true = One
tri_of false = Zero

-- what an output shows: a dash if it is left open, otherwise its bit
unfoldable pub output_at : Circuit → List Bool → List Bool → List ℕ → Tri
output_at circuit state row output =
    if is_free circuit state row output then Free else tri_of (value_in circuit state row output)

-- what all outputs show at a step
unfoldable pub outputs_at : Circuit → List Bool → List Bool → List Tri
outputs_at circuit state row = map (output_at circuit state row) circuit.outputs

-- the state after a step: all latches take their inputs at once
unfoldable pub next_state : Circuit → List Bool → List Bool → List Bool
next_state circuit state row = map (λ (latch : Latch). value_in circuit state row latch.input) circuit.latches

-- the outputs at each step from a state over a list of input rows
unfoldable pub run : Circuit → List Bool → List (List Bool) → List (List Tri)
run circuit state [] = []
run circuit state (row ∷ rows) = outputs_at circuit state row ∷ run circuit (next_state circuit state row) rows

-- a latch may start at a bit: at 0 or 1 if its init is that, at either if it is 2 or 3
abbrev pub may_start : ℕ → Bool → Type 0
may_start zero bit = bit ≡ false
may_start (suc zero) bit = bit ≡ true
may_start init bit = Unit {0}

-- the start states: a bit for each latch, at which that latch may start
unfoldable pub IsStart : Circuit → List Bool → Type 0
IsStart circuit state = AllZip (λ (latch : Latch) bit. may_start latch.init bit) circuit.latches state

-- an input row has one bit for each input
abbrev pub IsInputRow : Circuit → List Bool → Type 0
IsInputRow circuit row = length row ≡ length circuit.inputs

-- a circuit starts where its latches may start, and shows its run
abbrev pub of_circuit : Circuit → Behavior
of_circuit circuit = record {
  inputs = circuit.inputs;
  outputs = circuit.outputs;
  Start = List Bool;
  may_begin = IsStart circuit;
  shown = run circuit;
}

-- the second circuit may replace the first, which was asked for
abbrev pub Refines : Circuit → Circuit → Type 0
Refines asked circuit = RefinesAs (of_circuit asked) (of_circuit circuit)
