use Rattle.std.proofs.Common.{◌∷◌, ◌||◌, false, List, Err, refl, sym, ap, subst, reverse}
use Rattle.sis_outside.specs.Calls.{Follows}
use Rattle.sis_top.specs.Asked.{script_in}
use Rattle.sis_session.specs.State.{Held, nothing_held}
use Rattle.sis_top.specs.Machine.{Begin, Due, begun}
use Rattle.sis_top.specs.Code.{HasEnded, IsAt, IsCutAt, ended_as}
use Rattle.sis_top.proofs.Settling.{at_first, when_ok}
use Rattle.sis_top.proofs.Turning.{run_begun, run_none}
use Rattle.sis_top.proofs.running.run.Goals as goal

pub returns-in-Ok : goal.returns-in-Ok
returns-in-Ok g c =
    let script = script_in c.args.options.script in
    run_begun c.args.options.keep script g.S.Store.calls g.O.Sink.calls g.E.Sink.calls c.args.store.now c.begin-answer.new.store c.run_due.new.store c.args.out.now c.run_due.new.out
    c.args.err.now c.settle.new.err c.run_due.new.err (Follows g.I.Source.calls c.args.input.now c.begin-answer.new.input) (ended_as c.begin-answer.result nothing_held)
    (IsAt nothing_held (reverse c.settle.new.todo.items) (c.in-Ok.refused || false)) (HasEnded c.run_due.result) c.begin-answer.ensures.begun
    (c.in-Ok.ensures.settled (begun script) (record { line = 0; work = Begin script }) nothing_held false refl refl
    (refl, ap (λ (items : List Due). record { line = 0; work = Begin script } ∷ reverse items) (sym c.new-todo.ensures.items), refl, refl) (when_ok c.begin-answer.result _ refl))
    (λ machine at. c.run_due.ensures machine
    (subst (λ (held : Held). IsAt held (reverse c.settle.new.todo.items) c.in-Ok.refused machine) (sym c.new-session.ensures)
    (at_first nothing_held (reverse c.settle.new.todo.items) c.in-Ok.refused machine at)))

pub returns : goal.returns
returns g c =
    let script = script_in c.args.options.script in
    run_begun c.args.options.keep script g.S.Store.calls g.O.Sink.calls g.E.Sink.calls c.args.store.now c.begin-answer.new.store c.begin-answer.new.store c.args.out.now c.args.out.now
    c.args.err.now c.settle.new.err c.settle.new.err (Follows g.I.Source.calls c.args.input.now c.begin-answer.new.input) (ended_as c.begin-answer.result nothing_held)
    (IsCutAt (record { line = 0; what = c.in-Err.what })) (HasEnded (Err (record { line = 0; what = c.in-Err.what }))) c.begin-answer.ensures.begun
    (c.in-Err.ensures.settled (begun script) (record { line = 0; work = Begin script }) nothing_held false refl refl
    (refl, ap (λ (items : List Due). record { line = 0; work = Begin script } ∷ reverse items) (sym c.new-todo.ensures.items), refl, refl) (when_ok c.begin-answer.result _ refl))
    (λ machine at. run_none c.args.options.keep machine g.S.Store.calls g.O.Sink.calls g.E.Sink.calls c.begin-answer.new.store c.args.out.now c.settle.new.err
    (HasEnded (Err (record { line = 0; what = c.in-Err.what }))) at)
