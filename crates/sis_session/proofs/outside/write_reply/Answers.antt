use Rattle.std.proofs.Common.{◌≡◌, sym, ap, ◌∙◌, List, ℕ}
use Rattle.std.specs.Prelude.{None, Ok, Some}
use Rattle.sis_outside.specs.Calls.{Follows}
use Rattle.sis_session.specs.Commands.{reply_with}
use Rattle.sis_session.specs.Plan.{sends}
use Rattle.sis_session.proofs.Going.{both_alone, out_alone, put_nests, save_nests, store_alone, text_put, text_saved, untold_did}
use Rattle.sis_session.proofs.outside.write_reply.Goals as goal

pub returns-in-Err-clause-did : goal.returns-in-Err-clause-did
returns-in-Err-clause-did g c = λ held what told.
    both_alone g.S.Store.calls g.O.Sink.calls (λ plan. plan ≡ sends c.args.file.now (reply_with held what)) c.args.store.now c.args.out.now _ (untold_did held c.args.file.now what c.in-Err.fault (rw c.in-Err.is at told))

pub returns-in-Some-clause-did : goal.returns-in-Some-clause-did
returns-in-Some-clause-did g c = λ held what told.
    rw (c.in-Some.is, ← c.text.ensures)
    (store_alone g.O.Sink.calls (λ plan. plan ≡ sends (Some c.text.result.now) (reply_with held what)) (Follows g.S.Store.calls c.args.store.now c.save.new.store) c.args.out.now _
    (text_saved g.S.Store.calls held what c.text.result.now c.as_slice.result.now _ _ _ ((rw c.in-Ok.is at told) ∙ ap (λ (text : List ℕ). Ok text) (sym c.as_slice.ensures.value)) c.save.ensures))

pub returns-clause-did : goal.returns-clause-did
returns-clause-did g c = λ held what told.
    rw c.in-None.is
    (out_alone g.S.Store.calls (λ plan. plan ≡ sends None (reply_with held what)) (Follows g.O.Sink.calls c.args.out.now c.put.new.out) c.args.store.now _
    (text_put g.O.Sink.calls held what c.as_slice-in-None.result.now _ _ _ ((rw c.in-Ok.is at told) ∙ ap (λ (text : List ℕ). Ok text) (sym c.as_slice-in-None.ensures.value)) c.put.ensures))

pub returns-in-Some-clause-nests : goal.returns-in-Some-clause-nests
returns-in-Some-clause-nests g c = λ depth. save_nests g.S.Store.calls depth c.text.result.now c.as_slice.result.now _ _ _ c.save.ensures

pub returns-clause-nests : goal.returns-clause-nests
returns-clause-nests g c = λ depth. put_nests g.O.Sink.calls depth c.as_slice-in-None.result.now _ _ _ c.put.ensures
