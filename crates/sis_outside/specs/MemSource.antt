-- A source in memory: what it holds, and what a take does by its schedule.
-- Source: the project's own doubles of the outside.
use Rattle.std.specs.Prelude.{◌≡◌, ℕ, List, take, drop, min, Some, None, Result, Ok, Err}
use Rattle.std.specs.Global.{Vec}
use Rattle.sis_outside.specs.Counts.{one_more}
use Rattle.sis_outside.specs.Plan.{Schedule, next_failure, after_call}
use Rattle.sis_outside.specs.declared.source.TakeFault.{TakeFault}
use Rattle.sis_outside.specs.declared.source.TakeFault.TheVariants.{Failed, Memory}

-- what a source in memory holds; no piece has more than `most` bytes
pub record SourceState : Type 0 where
  pub left : List ℕ
  pub most : ℕ
  pub schedule : Schedule
  pub faults : ℕ

-- a call that is planned to fail does so after the bytes that pass, and no other call fails; a
-- piece is as long as the bounds and the bytes allow
abbrev pub TakesByPlan : SourceState → ℕ → Result (Vec ℕ) TakeFault → SourceState → Type 0
TakesByPlan old max (Ok piece) new =
    (next_failure old.schedule ≡ None)
    × (piece.items ≡ take (min max old.most) old.left)
    × (new ≡ record old { left = drop (min max old.most) old.left; schedule = after_call old.schedule })
TakesByPlan old max (Err Failed) new =
    (passes : ℕ)
    × (next_failure old.schedule ≡ Some passes)
    × (new ≡ record old { left = drop (min max passes) old.left; schedule = after_call old.schedule; faults = one_more old.faults })
TakesByPlan old max (Err Memory) new = new ≡ record old { schedule = after_call old.schedule }
