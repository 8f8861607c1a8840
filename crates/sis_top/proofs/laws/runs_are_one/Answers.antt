use Rattle.sis_top.specs.Machine.{begun}
use Rattle.sis_top.proofs.Single.{one_run}
use Rattle.sis_top.proofs.laws.runs_are_one.Goals as goal

pub returns : goal.returns
returns c = λ goes_on script one other end last h k none nothing certain sure alike.
    one_run c.commands_have_one_plan.ensures goes_on (begun script) end last one other h k none nothing certain sure alike
