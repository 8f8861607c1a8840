use Rattle.net_elim.specs.Phases.{IsCut}
use Rattle.net_elim.proofs.cutting.cut_inner.Given as goal

abbrev pub invariant-loop-place : goal.invariant-loop-place
invariant-loop-place g l = IsCut l.place l.fn.work l.work
