-- A sink in memory: what it holds, and what a put does by its schedule.
-- Source: the project's own doubles of the outside.
use Rattle.std.specs.Prelude.{◌≡◌, ℕ, List, ◌++◌, take, Some, None, Result, Ok, Err}
use Rattle.sis_outside.specs.Counts.{one_more}
use Rattle.sis_outside.specs.Plan.{Schedule, next_failure, after_call}
use Rattle.sis_outside.specs.declared.sink.PutFault.{PutFault}
use Rattle.sis_outside.specs.declared.sink.PutFault.TheVariants.{Failed, Memory}

-- what a sink in memory holds
pub record SinkState : Type 0 where
  pub written : List ℕ
  pub schedule : Schedule
  pub faults : ℕ

-- a call that is planned to fail does so after the bytes that pass, and no other call fails
abbrev pub PutsByPlan : SinkState → List ℕ → Result (Unit {0}) PutFault → SinkState → Type 0
PutsByPlan old piece (Ok _) new =
    (next_failure old.schedule ≡ None)
    × (new ≡ record old { written = old.written ++ piece; schedule = after_call old.schedule })
PutsByPlan old piece (Err Failed) new =
    (passes : ℕ)
    × (next_failure old.schedule ≡ Some passes)
    × (new ≡ record { written = old.written ++ take passes piece; schedule = after_call old.schedule; faults = one_more old.faults })
PutsByPlan old piece (Err Memory) new = new ≡ record old { schedule = after_call old.schedule }
