use Rattle.std.proofs.Common.{◌≡◌, ℕ, List, sym, subst}
use Rattle.sis_outside.specs.Calls.{Follows}
use Rattle.sis_session.specs.Methods.{AskedNone}
use Rattle.sis_session.specs.Plan.{Comes, Did, Ending, Loads}
use Rattle.sis_session.specs.State.{nothing_held}
use Rattle.sis_session.proofs.Going.{loaded_did, unloaded_did}
use Rattle.sis_top.specs.Machine.{begins}
use Rattle.sis_top.specs.Code.{ended_as}
use Rattle.sis_top.proofs.Going.{begun_did}
use Rattle.sis_top.proofs.beginning.begin_file.Goals as goal

pub returns-in-Ok-clause-begun : goal.returns-in-Ok-clause-begun
returns-in-Ok-clause-begun g c =
    begun_did (Loads c.args.name.now (begins nothing_held)) (Follows g.S.Store.calls c.args.store.now c.load.new.store) (ended_as c.begin_by.result nothing_held)
    (loaded_did g.S.Store.calls c.args.name.now (begins nothing_held) c.args.store.now c.load.new.store c.in-Ok.text (ended_as c.begin_by.result nothing_held) c.in-Ok.ensures.loaded
    (subst (λ (text : List ℕ). Comes (begins nothing_held text) (ended_as c.begin_by.result nothing_held)) c.as_slice.ensures.value c.begin_by.ensures.comes))

pub returns-in-Err-clause-begun : goal.returns-in-Err-clause-begun
returns-in-Err-clause-begun g c =
    begun_did (Loads c.args.name.now (begins nothing_held)) (Follows g.S.Store.calls c.args.store.now c.load.new.store) _
    (subst (λ (ending : Ending). Did (λ plan. plan ≡ Loads c.args.name.now (begins nothing_held)) (Follows g.S.Store.calls c.args.store.now c.load.new.store) AskedNone ending) (sym c.halt_by.ensures)
    (unloaded_did g.S.Store.calls c.args.name.now (begins nothing_held) c.args.store.now c.load.new.store c.in-Err.fault c.in-Err.ensures.loaded))
