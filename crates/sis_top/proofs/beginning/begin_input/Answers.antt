use Rattle.std.proofs.Common.{ℕ, List, subst, inl, refl, Ok, Err}
use Rattle.sis_outside.specs.Calls.{Follows}
use Rattle.sis_session.specs.Plan.{Comes}
use Rattle.sis_session.specs.State.{nothing_held}
use Rattle.sis_top.specs.Machine.{begins}
use Rattle.sis_top.specs.Code.{ended_as}
use Rattle.sis_top.specs.declared.input.Unread.TheVariants as unread
use Rattle.sis_top.proofs.Going.{begun_taken}
use Rattle.sis_top.proofs.beginning.begin_input.Goals as goal

pub returns-in-Ok-clause-begun : goal.returns-in-Ok-clause-begun
returns-in-Ok-clause-begun g c =
    begun_taken (begins nothing_held) (Follows g.I.Source.calls c.args.input.now c.take_script.new.input) (Ok c.in-Ok.text) (ended_as c.begin_by.result nothing_held) c.in-Ok.ensures.taken
    (subst (λ (text : List ℕ). Comes (begins nothing_held text) (ended_as c.begin_by.result nothing_held)) c.as_slice.ensures.value c.begin_by.ensures.comes)

pub returns-in-Err-TooLong-clause-begun : goal.returns-in-Err-TooLong-clause-begun
returns-in-Err-TooLong-clause-begun g c =
    begun_taken (begins nothing_held) (Follows g.I.Source.calls c.args.input.now c.take_script.new.input) (Err unread.TooLong) _
    (rw c.in-Err-TooLong.field-0-is at c.in-Err-TooLong.ensures.taken) (inl refl)

pub returns-in-Err-Failed-clause-begun : goal.returns-in-Err-Failed-clause-begun
returns-in-Err-Failed-clause-begun g c =
    begun_taken (begins nothing_held) (Follows g.I.Source.calls c.args.input.now c.take_script.new.input) (Err unread.Failed) _
    (rw c.in-Err-Failed.field-0-is at c.in-Err-Failed.ensures.taken) refl

pub returns-in-Err-Memory-clause-begun : goal.returns-in-Err-Memory-clause-begun
returns-in-Err-Memory-clause-begun g c =
    begun_taken (begins nothing_held) (Follows g.I.Source.calls c.args.input.now c.take_script.new.input) (Err unread.Memory) _
    (rw c.in-Err-Memory.field-0-is at c.in-Err-Memory.ensures.taken) refl
