use Rattle.std.specs.Prelude.{reverse}
use Rattle.sis_outside.specs.Calls.{Follows}
use Rattle.sis_session.specs.Methods.{AskedNone}
use Rattle.sis_top.specs.Machine.{Machine}
use Rattle.sis_top.specs.Code.{HasRun, IsAt, weight}
use Rattle.sis_top.proofs.running.run_due.Given as goal

abbrev pub invariant-turns : goal.invariant-turns
invariant-turns g l = (machine : Machine) → IsAt l.fn.session (reverse l.fn.todo.items) l.before machine
    → HasRun l.goes_on machine (Follows g.S.Store.calls l.fn.store l.store) AskedNone (Follows g.O.Sink.calls l.fn.out l.out) (Follows g.E.Sink.calls l.fn.err l.err)
    (IsAt l.session (reverse l.todo.items) l.refused)

abbrev pub decreases-turns : goal.decreases-turns
decreases-turns g l = weight (reverse l.todo.items)
