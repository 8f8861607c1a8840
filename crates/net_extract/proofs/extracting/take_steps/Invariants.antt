use Rattle.circuit_model.specs.Counts.{literals_of}
use Rattle.net_work.specs.Placed.{circuit_of}
use Rattle.net_extract.specs.Going.{IsAlong}
use Rattle.net_extract.specs.Known.{AreCounted, AreSaved}
use Rattle.net_extract.proofs.extracting.take_steps.Given as goal

abbrev pub invariant-loop-known : goal.invariant-loop-known
invariant-loop-known g l = record {
  along : IsAlong l.rule l.fn.work l.work;
  known : AreCounted l.work.slots l.known.gains;
  saved : AreSaved l.rule l.work l.known.savings;
}

abbrev pub decreases-loop-known : goal.decreases-loop-known
decreases-loop-known g l = literals_of (circuit_of l.work)
