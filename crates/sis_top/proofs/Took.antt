-- A turn of a machine, by its parts.
use Rattle.std.proofs.Common.{◌≡◌, List, [], ◌∷◌, refl, sym, ap, subst}
use Rattle.std.specs.Prelude.{Bool, Option, Some, None}
use Rattle.sis_session.specs.Plan.{Steps}
use Rattle.sis_top.specs.Machine.{Due, Machine, Turn, WorkPlans, IsTurn, IsTurnOf, IsTold, after, after_ending, after_first, next_work}

-- the work item that was due, what it did, and the machine after the turn
pub record Took (goes_on : Bool) (machine : Machine) (turn : Turn) : Type 0 where
  pub due : Due
  pub first : next_work machine.todo ≡ Some due.work
  pub steps : Steps (WorkPlans machine.held due.work) turn.asked turn.ending
  pub told : IsTold due.line turn.ending turn.told
  pub next : after goes_on machine turn ≡ after_ending goes_on machine due turn.ending turn.told

took_of : (goes_on : Bool) (machine : Machine) (turn : Turn) (todo : List Due) → machine.todo ≡ todo → IsTurnOf machine todo turn → Took goes_on machine turn
took_of goes_on machine turn [] e h = absurd h
took_of goes_on machine turn (due ∷ rest) e h = record {
  due = due;
  first = ap next_work e;
  steps = h.0;
  told = h.1;
  next = ap (λ (todo : List Due). after_first goes_on machine todo turn) e;
}

pub took : (goes_on : Bool) (machine : Machine) (turn : Turn) → IsTurn machine turn → Took goes_on machine turn
took goes_on machine turn h = took_of goes_on machine turn machine.todo refl h
