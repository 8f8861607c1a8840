use Rattle.circuit_model.specs.Counts.{literals_of}
use Rattle.circuit_model.specs.Soundness.{IsSound}
use Rattle.net_core.specs.Reads.{HasBounds}
use Rattle.net_work.specs.Placed.{circuit_of}
use Rattle.net_resub.specs.Resubbed.{IsReached}
use Rattle.net_resub.specs.Kept.{IsKept}
use Rattle.net_resub.proofs.resubbing.resub_all.Given as goal

abbrev pub invariant-loop-kept : goal.invariant-loop-kept
invariant-loop-kept g l = record {
  sound : IsSound (circuit_of l.work);
  reached : IsReached (circuit_of l.fn.work) (circuit_of l.work);
  bounds : HasBounds (circuit_of l.fn.work) → HasBounds (circuit_of l.work);
  kept : IsKept l.work.slots l.kept;
}

abbrev pub decreases-loop-kept : goal.decreases-loop-kept
decreases-loop-kept g l = literals_of (circuit_of l.work)
