use Rattle.std.proofs.Common.{None, ap, ◌∙◌}
use Rattle.net_work.specs.Placed.{Placed, with_slot}
use Rattle.net_elim.proofs.Steps.{eliminated_circuit}
use Rattle.net_elim.proofs.eliminating.eliminate_at.Goals as goal

pub returns-in_ok-remove-in-Ok-clause-circuit : goal.returns-in_ok-remove-in-Ok-clause-circuit
returns-in_ok-remove-in-Ok-clause-circuit g c = λ done inner at.
    eliminated_circuit c.args.work.now c.remove.new.self c.args.place inner c.requires.sound at
    (c.in_ok-remove-in-Ok.ensures ∙ ap (λ (p : Placed). with_slot p c.args.place None) (c.in-Ok.ensures.put inner at))
