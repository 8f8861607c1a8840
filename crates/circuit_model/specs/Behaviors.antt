-- What circuits and machines have in common: ports, starts and runs; and when one behavior may
-- replace another. Source: De Micheli, "Synthesis and Optimization of Digital Circuits", chapter 9
-- (synchronous circuits as finite-state machines, incompletely specified machines): an
-- implementation shows what was specified, from a start that may be its own.
use Rattle.std.specs.Prelude.{◌≡◌, ℕ, Bool, List, length}
use Rattle.std.specs.List.{AllZip, AllByRecursion}
use Rattle.circuit_model.specs.declared.circuit.Tri.{Tri}
use Rattle.circuit_model.specs.declared.circuit.Tri.TheVariants.{Zero, One, Free}

-- what is shown meets what was asked for: the same bit wherever 0 or 1 was asked for
abbrev pub Meets : Tri → Tri → Type 0
Meets Free shown = Unit {0}
Meets Zero shown = shown ≡ Zero
Meets One shown = shown ≡ One

-- a run meets what was asked for at every step and output, and has as many of both
unfoldable pub MeetsAll : List (List Tri) → List (List Tri) → Type 0
MeetsAll asked shown = AllZip (AllZip Meets) asked shown

-- ports, the states that a run may start in, and what is shown from such a state over a list of
-- input rows
pub record Behavior : Type 1 where
  pub inputs : List (List ℕ)
  pub outputs : List (List ℕ)
  pub Start : Type 0
  pub may_begin : Start → Type 0
  pub shown : Start → List (List Bool) → List (List Tri)

-- the second behavior may replace the first, which was asked for: it has the first one's ports, in
-- order, and wherever it starts, the first has a start from which no list of input rows leads it to
-- a run that the second does not meet
pub record RefinesAs (asked shown : Behavior) : Type 0 where
  pub inputs : asked.inputs ≡ shown.inputs
  pub outputs : asked.outputs ≡ shown.outputs
  pub runs : (state : shown.Start) → shown.may_begin state →
      (start : asked.Start) × asked.may_begin start
      × ((rows : List (List Bool)) → AllByRecursion (λ (row : List Bool). length row ≡ length shown.inputs) rows
      → MeetsAll (asked.shown start rows) (shown.shown state rows))
