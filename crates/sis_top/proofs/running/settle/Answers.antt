use Rattle.std.proofs.Common.{◌≡◌, ◌∙◌, ℕ, Ok, Err, ap, sym, subst, refl, reverse}
use Rattle.sis_outside.specs.Calls.{Follows}
use Rattle.sis_top.specs.Machine.{todo_after}
use Rattle.sis_top.specs.Code.{added_weight}
use Rattle.sis_top.specs.declared.halt.Halt.TheVariants as halt
use Rattle.sis_top.proofs.Settling.{settled_as, settled_done, settled_wanting, settled_cut, settled_told, settled_untold, same_held}
use Rattle.sis_top.proofs.Weighing.{weight_after, weight_kept}
use Rattle.sis_top.proofs.running.settle.Goals as goal

pub returns-in-Ok-follow-clause-settled : goal.returns-in-Ok-follow-clause-settled
returns-in-Ok-follow-clause-settled g c = λ machine due held before line deep at same.
    settled_as c.args.goes_on machine due held c.args.answer (Ok c.in-Ok.next) (Follows g.E.Sink.calls c.args.err.now c.args.err.now) _ c.in-Ok.is
    (settled_done c.args.goes_on machine due held c.in-Ok.next (reverse c.args.todo.now.items) (reverse c.follow.new.todo.items) before (Follows g.E.Sink.calls c.args.err.now c.args.err.now) refl at
    (subst (λ (depth : ℕ). reverse c.follow.new.todo.items ≡ todo_after depth c.in-Ok.next (reverse c.args.todo.now.items)) (sym deep) c.in-Ok-follow.ensures.ok))

pub returns-in-Ok-follow-clause-weight : goal.returns-in-Ok-follow-clause-weight
returns-in-Ok-follow-clause-weight g c = weight_after c.args.depth c.in-Ok.next (reverse c.args.todo.now.items) (reverse c.follow.new.todo.items) c.args.answer c.in-Ok.is c.in-Ok-follow.ensures.ok

pub returns-in-Ok-clause-settled : goal.returns-in-Ok-clause-settled
returns-in-Ok-clause-settled g c = λ machine due held before line deep at same.
    settled_as c.args.goes_on machine due held c.args.answer (Ok c.in-Ok.next) (Follows g.E.Sink.calls c.args.err.now c.args.err.now) _ c.in-Ok.is
    (settled_wanting c.args.goes_on machine due held c.in-Ok.next c.args.line c.in-Err.what (Follows g.E.Sink.calls c.args.err.now c.args.err.now) refl line c.in-Err.ensures.err)

pub returns-in-Ok-tell-clause-settled : goal.returns-in-Ok-tell-clause-settled
returns-in-Ok-tell-clause-settled g c = λ machine due held before line deep at same.
    let answer = c.in-Err-Refused.is ∙ ap Err c.in-Err-Refused.field-0-is in
    settled_as c.args.goes_on machine due held c.args.answer (Err (halt.Refused c.in-Err-Refused.why)) (Follows g.E.Sink.calls c.args.err.now c.tell.new.err) _ answer
    (settled_told c.args.goes_on machine due held c.in-Err-Refused.why (reverse c.args.todo.now.items) (reverse c.keep_due.new.todo.items) before c.args.line (Follows g.E.Sink.calls c.args.err.now c.tell.new.err) c.in-Ok-tell.ensures line at
    (same_held machine held c.args.answer (halt.Refused c.in-Err-Refused.why) answer same) c.keep_due.ensures)

pub returns-in-Ok-tell-clause-weight : goal.returns-in-Ok-tell-clause-weight
returns-in-Ok-tell-clause-weight g c =
    weight_kept c.args.goes_on (reverse c.keep_due.new.todo.items) (reverse c.args.todo.now.items) (added_weight c.args.depth c.args.answer) c.keep_due.ensures

pub returns-in-Err-Refused-clause-settled : goal.returns-in-Err-Refused-clause-settled
returns-in-Err-Refused-clause-settled g c = λ machine due held before line deep at same.
    settled_as c.args.goes_on machine due held c.args.answer (Err (halt.Refused c.in-Err-Refused.why)) (Follows g.E.Sink.calls c.args.err.now c.tell.new.err) _ (c.in-Err-Refused.is ∙ ap Err c.in-Err-Refused.field-0-is)
    (settled_untold c.args.goes_on machine due c.in-Err-Refused.why c.in-Err-tell.what c.args.line (Follows g.E.Sink.calls c.args.err.now c.tell.new.err) c.in-Err-tell.ensures line)

pub returns-clause-settled : goal.returns-clause-settled
returns-clause-settled g c = λ machine due held before line deep at same.
    settled_as c.args.goes_on machine due held c.args.answer (Err (halt.Cut c.in-Err-Cut.what)) (Follows g.E.Sink.calls c.args.err.now c.args.err.now) _ (c.in-Err-Cut.is ∙ ap Err c.in-Err-Cut.field-0-is)
    (settled_cut c.args.goes_on machine due c.in-Err-Cut.what c.args.line (Follows g.E.Sink.calls c.args.err.now c.args.err.now) refl line)
