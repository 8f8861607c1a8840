-- A circuit whose latches hold codes of a machine's states does what the machine specifies.
use Rattle.std.proofs.Common.{◌≡◌, ℕ, zero, suc, ◌<◌, Bool, Option, Some, None, List, [], ◌∷◌, length, replicate, refl, sym, ap, ◌∙◌, subst, arith}
use Rattle.std.specs.List.{AllZip, AllByRecursion}
use Rattle.std.proofs.lemmas.List.{length-map}
use Rattle.circuit_model.specs.Behaviors.{Meets, MeetsAll, RefinesAs}
use Rattle.circuit_model.specs.Runs.{output_at, outputs_at, next_state, run, IsStart, IsInputRow, of_circuit}
use Rattle.circuit_model.specs.MachineRuns.{outputs_from, next_from, run_from}
use Rattle.circuit_model.specs.MachineBehaviors.{of_machine}
use Rattle.circuit_model.specs.declared.circuit.Tri.{Tri}
use Rattle.circuit_model.specs.declared.circuit.Tri.TheVariants.{Free}
use Rattle.circuit_model.specs.declared.circuit.Circuit.{Circuit}
use Rattle.circuit_model.specs.declared.machine.Machine.{Machine}

-- the latches hold the code of the machine's state: at the start, and after each specified step;
-- and what the machine
-- specifies is shown
pub record IsCoding (machine : Machine) (circuit : Circuit) (code : ℕ → List Bool) : Type 0 where
  pub inputs : machine.inputs ≡ circuit.inputs
  pub outputs : machine.outputs ≡ circuit.outputs
  pub reset : machine.reset < length machine.states
  pub starts : (state : List Bool) → IsStart circuit state → state ≡ code machine.reset
  pub shows : (place : ℕ) (row : List Bool) → place < length machine.states → IsInputRow circuit row
      → AllZip Meets (outputs_from machine place row) (outputs_at circuit (code place) row)
  pub stays : (place next : ℕ) (row : List Bool) → place < length machine.states
      → IsInputRow circuit row → next_from machine place row ≡ Some next
      → next < length machine.states
  pub moves : (place next : ℕ) (row : List Bool) → place < length machine.states
      → IsInputRow circuit row → next_from machine place row ≡ Some next
      → next_state circuit (code place) row ≡ code next

open_meets : (count : ℕ) (shown : List Tri) → count ≡ length shown
    → AllZip Meets (replicate count Free) shown
open_meets zero [] e = tt
open_meets zero (one ∷ shown) e = absurd (omega arith)
open_meets (suc count) [] e = absurd (omega arith)
open_meets (suc count) (one ∷ shown) e = (tt, open_meets count shown (omega arith))

outputs_long : (circuit : Circuit) (state row : List Bool)
    → length (outputs_at circuit state row) ≡ length circuit.outputs
unfolding outputs_at
outputs_long circuit state row = length-map circuit.outputs (output_at circuit state row)

open_run : (machine : Machine) (circuit : Circuit) → machine.outputs ≡ circuit.outputs
    → (rows : List (List Bool)) (state : List Bool)
    → MeetsAll (run_from machine None rows) (run circuit state rows)
unfolding run_from run MeetsAll
open_run machine circuit outputs [] state = tt
open_run machine circuit outputs (row ∷ rows) state = (
  open_meets (length machine.outputs) (outputs_at circuit state row) (ap length outputs
      ∙ sym (outputs_long circuit state row)),
  open_run machine circuit outputs rows (next_state circuit state row),
)

module _ (machine : Machine) (circuit : Circuit) (code : ℕ
    → List Bool) (coding : IsCoding machine circuit code) where
  coded_run : (rows : List (List Bool)) → AllByRecursion (IsInputRow circuit) rows → (place : ℕ)
      → place < length machine.states
      → MeetsAll (run_from machine (Some place) rows) (run circuit (code place) rows)
  unfolding run_from run MeetsAll
  coded_run [] wide place inside = tt
  coded_run (row ∷ rows) wide place inside = (
    coding.shows place row inside wide.0,
    cases (next_from machine place row) refl (coded_run rows wide.1),
  )
    where
      cases : (next : Option ℕ) → next_from machine place row ≡ next
          → ((other : ℕ) → other < length machine.states
          → MeetsAll (run_from machine (Some other) rows) (run circuit (code other) rows))
          → MeetsAll (run_from machine next rows) (run circuit (next_state circuit (code place) row)
          rows)
      cases None is more = open_run machine circuit coding.outputs rows
          (next_state circuit (code place) row)
      cases (Some next) is more =
          subst (λ (state : List Bool). MeetsAll (run_from machine (Some next) rows)
          (run circuit state rows)) (sym (coding.moves place next row inside wide.0 is))
          (more next (coding.stays place next row inside wide.0 is))

  pub codings_refine : RefinesAs (of_machine machine) (of_circuit circuit)
  codings_refine = record {
    inputs = coding.inputs;
    outputs = coding.outputs;
    runs = λ state begins. (
      Some machine.reset,
      refl,
      λ rows wide.
          subst (λ (bits : List Bool). MeetsAll (run_from machine (Some machine.reset) rows)
          (run circuit bits rows)) (sym (coding.starts state begins))
          (coded_run rows wide machine.reset coding.reset),
    );
  }
