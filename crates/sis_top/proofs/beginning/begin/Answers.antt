use Rattle.sis_outside.specs.Calls.{Follows}
use Rattle.sis_session.specs.State.{nothing_held}
use Rattle.sis_top.specs.Asked.{InFile, OnInput}
use Rattle.sis_top.specs.Machine.{begin_plan}
use Rattle.sis_top.specs.Code.{ended_as}
use Rattle.sis_top.proofs.Going.{begun_file, begun_text, begun_input}
use Rattle.sis_top.proofs.beginning.begin.Goals as goal

pub returns-in-File-clause-begun : goal.returns-in-File-clause-begun
returns-in-File-clause-begun g c =
    rw c.in-File.is (begun_file (begin_plan nothing_held (InFile c.in-File.name.now)) (Follows g.S.Store.calls c.args.store.now c.begin_file.new.store) g.I.Source.calls c.args.input.now
    (ended_as c.begin_file.result nothing_held) c.begin_file.ensures.begun)

pub returns-in-Text-clause-begun : goal.returns-in-Text-clause-begun
returns-in-Text-clause-begun g c =
    rw c.in-Text.is (begun_text _ g.S.Store.calls c.args.store.now g.I.Source.calls c.args.input.now (ended_as c.begin_text.result nothing_held) c.begin_text.ensures.comes)

pub returns-in-Input-clause-begun : goal.returns-in-Input-clause-begun
returns-in-Input-clause-begun g c =
    rw c.in-Input.is (begun_input (begin_plan nothing_held OnInput) g.S.Store.calls c.args.store.now (Follows g.I.Source.calls c.args.input.now c.begin_input.new.input)
    (ended_as c.begin_input.result nothing_held) c.begin_input.ensures.begun)
