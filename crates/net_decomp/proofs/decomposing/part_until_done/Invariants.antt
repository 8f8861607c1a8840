use Rattle.std.proofs.Common.{◌≡◌}
use Rattle.net_core.specs.Fresh.{node_count}
use Rattle.net_work.specs.Placed.{circuit_of}
use Rattle.net_decomp.specs.Cursor.{IsAlong, weight}
use Rattle.net_decomp.proofs.decomposing.part_until_done.Given as goal

abbrev pub invariant-loop-now : goal.invariant-loop-now
invariant-loop-now g l = record {
  nodes : l.count ≡ node_count (circuit_of l.work);
  along : IsAlong l.rule l.place l.fn.work l.work;
}

abbrev pub decreases-loop-now : goal.decreases-loop-now
decreases-loop-now g l = weight l.place l.work
