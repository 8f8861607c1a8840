use Rattle.sis_session.proofs.outside.load.Goals as goal

pub returns-in-Ok-clause-within : goal.returns-in-Ok-clause-within
returns-in-Ok-clause-within g c = (g.met.S.Store.keeps _ _ _ c.in-Ok.ensures.calls).1.1
