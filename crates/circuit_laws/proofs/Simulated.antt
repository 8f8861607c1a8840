-- A circuit refines another one if related states show the same and stay related: the induction
-- over time.
use Rattle.std.proofs.Common.{◌≡◌, suc, Bool, List, [], ◌∷◌, length, refl, ap, subst}
use Rattle.std.specs.List.{AllZip, AllByRecursion}
use Rattle.circuit_model.specs.Behaviors.{MeetsAll}
use Rattle.circuit_model.specs.Runs.{outputs_at, next_state, run, IsStart, may_start, IsInputRow, Refines}
use Rattle.circuit_model.specs.declared.circuit.Tri.{Tri}
use Rattle.circuit_model.specs.declared.circuit.Latch.{Latch}
use Rattle.circuit_model.specs.declared.circuit.Circuit.{Circuit}
use Rattle.circuit_model.proofs.Refinement.{all-meet-same}

-- what is shown is met by the same
pub equal_meets : (asked shown : List (List Tri)) → asked ≡ shown → MeetsAll asked shown
equal_meets asked shown e = subst (MeetsAll asked) e (all-meet-same asked)

-- one step of two circuits in related states
pub record IsStep (R : List Bool → List Bool → Type 0) (old new : Circuit) (start state row : List Bool) : Type 0 where
  pub shows : outputs_at old start row ≡ outputs_at new state row
  pub stays : R (next_state old start row) (next_state new state row)

runs_same : (R : List Bool → List Bool → Type 0) (old new : Circuit) → ((start state row : List Bool) → R start state → IsInputRow new row → IsStep R old new start state row)
    → (rows : List (List Bool)) → AllByRecursion (IsInputRow new) rows → (start state : List Bool) → R start state → run old start rows ≡ run new state rows
unfolding run
runs_same R old new step [] wide start state related = refl
runs_same R old new step (row ∷ rows) wide start state related =
    let now = step start state row related wide.0 in
    rw (now.shows, runs_same R old new step rows wide.1 (next_state old start row) (next_state new state row) now.stays) refl

pub simulated : (R : List Bool → List Bool → Type 0) (old new : Circuit) → old.inputs ≡ new.inputs → old.outputs ≡ new.outputs
    → ((state : List Bool) → IsStart new state → (start : List Bool) × IsStart old start × R start state)
    → ((start state row : List Bool) → R start state → IsInputRow new row → IsStep R old new start state row) → Refines old new
simulated R old new inputs outputs starts step = record {
  inputs = inputs;
  outputs = outputs;
  runs = λ state begins.
      let (start, first, related) = starts state begins in
      (start, first, λ rows wide. equal_meets (run old start rows) (run new state rows) (runs_same R old new step rows wide start state related));
}

-- a start has a bit for each latch, and so has what follows a state
pub start_long : (circuit : Circuit) (state : List Bool) → IsStart circuit state → length state ≡ length circuit.latches
unfolding IsStart
start_long circuit state begins = zipped circuit.latches state begins
  where
    zipped : (latches : List Latch) (bits : List Bool) → AllZip (λ (latch : Latch) bit. may_start latch.init bit) latches bits → length bits ≡ length latches
    zipped [] [] h = refl
    zipped [] (bit ∷ bits) h = absurd h
    zipped (latch ∷ latches) [] h = absurd h
    zipped (latch ∷ latches) (bit ∷ bits) h = ap suc (zipped latches bits h.1)
