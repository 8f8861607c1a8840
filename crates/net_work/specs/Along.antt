-- Steps for the items of a list, one after the other: the first that refuses, and how far a working
-- network has come.
-- Source: De Micheli, "Synthesis and Optimization of Digital Circuits", chapter 8 (a network is
-- transformed vertex by vertex).
use Rattle.std.specs.Prelude.{◌≡◌, ℕ, Option, None, List, [], ◌∷◌, fold}
use Rattle.std.specs.Option.{option_or}
use Rattle.circuit_model.specs.Soundness.{IsSound}
use Rattle.circuit_model.specs.declared.circuit.Circuit.{Circuit}
use Rattle.net_work.specs.Placed.{Placed, circuit_of, name_at}

-- the first refusal of a step, each taken from where the steps before it led
unfoldable pub refusal_along : {N X F : Type 0} → (N → X → N) → (N → X → Option F) → N → List X → Option F
refusal_along step refusal from [] = None
refusal_along step refusal from (item ∷ items) = option_or (refusal from item) (refusal_along step refusal (step from item) items)

-- what is left of an order of names leads where the whole order led, and refuses what the whole
-- order refused
pub record IsAlong {F : Type 0} (step : Circuit → List ℕ → Circuit) (refusal : Circuit → List ℕ → Option F) (names left : List (List ℕ)) (before now : Placed) : Type 0 where
  pub frame : now.frame ≡ before.frame
  pub names_stay : (at : ℕ) → name_at now.slots at ≡ name_at before.slots at
  pub end_same : fold step (circuit_of before) names ≡ fold step (circuit_of now) left
  pub refusal_same : refusal_along step refusal (circuit_of before) names ≡ refusal_along step refusal (circuit_of now) left
  pub sound : IsSound (circuit_of now)
