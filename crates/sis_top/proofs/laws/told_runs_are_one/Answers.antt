use Rattle.sis_top.specs.Machine.{begun}
use Rattle.sis_top.proofs.Over.{told_run}
use Rattle.sis_top.proofs.laws.told_runs_are_one.Goals as goal

pub returns : goal.returns
returns c = λ goes_on script files one other h k takes.
    told_run c.commands_have_one_plan.ensures goes_on (begun script) h.end k.end files h.later k.later one other h.runs k.runs h.whole k.whole h.uncut k.uncut h.fitted k.fitted h.went k.went h.within k.within takes
