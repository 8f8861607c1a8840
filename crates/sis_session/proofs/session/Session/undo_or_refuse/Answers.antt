use Rattle.sis_session.proofs.Stepping.{undone_did, nothing_undone_did}
use Rattle.sis_session.proofs.session.Session.undo_or_refuse.Goals as goal

pub returns-then-undo-clause-did : goal.returns-then-undo-clause-did
returns-then-undo-clause-did c = undone_did c.args.self.now c.undo.new.self c.args.self.now.previous c.undo.result c.undo.ensures c.if-undo.true

pub returns-else-undo-clause-did : goal.returns-else-undo-clause-did
returns-else-undo-clause-did c = nothing_undone_did c.args.self.now c.undo.new.self c.args.self.now.previous c.undo.result c.undo.ensures c.if-undo.false
