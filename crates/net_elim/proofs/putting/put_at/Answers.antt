use Rattle.net_elim.proofs.putting.put_at.Goals as goal

pub returns-clause-put : goal.returns-clause-put
returns-clause-put g c = λ inner at. c.in_ok-set_all.ensures inner (c.in_ok-made.ensures.made inner at)
