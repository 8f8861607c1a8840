use Rattle.std.proofs.Common.{◌||◌, Bool, [], Ok, Err, refl, sym, subst, reverse, arith}
use Rattle.sis_outside.specs.Calls.{Follows}
use Rattle.sis_session.specs.Methods.{AskedNone}
use Rattle.sis_top.specs.Code.{HasEnded, HasRun, IsAt}
use Rattle.sis_top.proofs.Settling.{popped, ended_at}
use Rattle.sis_top.proofs.Turning.{run_more, run_ended}
use Rattle.sis_top.proofs.running.run_due.Goals as goal

pub turns-init : goal.turns-init
turns-init g c = λ machine at. record { turns = []; to = machine; runs = refl; store_went = refl; input_went = refl; out_went = refl; err_went = refl; lands = at }

pub turns-preserved : goal.turns-preserved
turns-preserved g c = λ machine at.
    subst (λ (refused : Bool). HasRun c.args.goes_on machine (Follows g.S.Store.calls c.args.store.now c.take_turn.new.store) AskedNone (Follows g.O.Sink.calls c.args.out.now c.take_turn.new.out)
    (Follows g.E.Sink.calls c.args.err.now c.take_turn.new.err) (IsAt c.take_turn.new.session (reverse c.take_turn.new.todo.items) refused)) (sym c.was_refused-refused.ensures)
    (run_more c.args.goes_on machine g.S.Store.calls g.O.Sink.calls g.E.Sink.calls c.args.store.now c.turns.store c.take_turn.new.store c.args.out.now c.turns.out c.take_turn.new.out c.args.err.now c.turns.err c.take_turn.new.err
    (IsAt c.turns.session (reverse c.turns.todo.items) c.turns.refused) (IsAt c.take_turn.new.session (reverse c.take_turn.new.todo.items) (c.in-Ok.now || c.turns.refused))
    (c.turns.invariant machine at)
    (λ m here. c.in-Ok.ensures.turned m c.turns.refused (popped c.turns.session c.turns.todo.items c.pop.new.self.items c.in-Some.due c.turns.refused m c.in-Some.ensures.items here)))

pub returns-in-Err : goal.returns-in-Err
returns-in-Err g c = λ machine at.
    run_more c.args.goes_on machine g.S.Store.calls g.O.Sink.calls g.E.Sink.calls c.args.store.now c.turns.store c.take_turn.new.store c.args.out.now c.turns.out c.take_turn.new.out c.args.err.now c.turns.err c.take_turn.new.err
    (IsAt c.turns.session (reverse c.turns.todo.items) c.turns.refused) (HasEnded (Err c.in-Err.stop))
    (c.turns.invariant machine at)
    (λ m here. c.in-Err.ensures.turned m c.turns.refused (popped c.turns.session c.turns.todo.items c.pop.new.self.items c.in-Some.due c.turns.refused m c.in-Some.ensures.items here))

pub returns : goal.returns
returns g c = λ machine at.
    run_ended c.args.goes_on machine (Follows g.S.Store.calls c.args.store.now c.turns.store) AskedNone (Follows g.O.Sink.calls c.args.out.now c.turns.out) (Follows g.E.Sink.calls c.args.err.now c.turns.err)
    (IsAt c.turns.session (reverse c.turns.todo.items) c.turns.refused) (HasEnded (Ok c.turns.refused)) (c.turns.invariant machine at)
    (λ m here. ended_at c.turns.session c.turns.todo.items c.turns.refused m (omega (arith, c.in_default.ensures.cases, c.turns.todo.ok.0)) here)
