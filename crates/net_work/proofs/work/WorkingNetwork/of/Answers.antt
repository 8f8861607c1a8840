use Rattle.std.proofs.Common.{◌≡◌, ◌∙◌}
use Rattle.std.proofs.lemmas.Result.{IfOk-weaker}
use Rattle.net_work.specs.Placed.{circuit_of}
use Rattle.net_work.proofs.work.WorkingNetwork.of.Goals as goal

pub returns-clause-circuit : goal.returns-clause-circuit
returns-clause-circuit g c =
    IfOk-weaker c.from_network.result (λ work. circuit_of work ≡ c.in_ok-copy.copy)
    (λ work. circuit_of work ≡ c.args.network.now) (λ work is. is ∙ c.in_ok-copy.ensures)
    c.from_network.ensures.circuit
