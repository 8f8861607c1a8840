use Rattle.std.proofs.Common.{◌≡◌, ◌-◌, ◌^◌}
use Rattle.net_core.specs.Fresh.{node_count}
use Rattle.net_work.specs.Placed.{circuit_of}
use Rattle.net_decomp.specs.Cursor.{IsAlong}
use Rattle.net_decomp.proofs.decomposing.part_all.Given as goal

abbrev pub invariant-loop-place : goal.invariant-loop-place
invariant-loop-place g l = record {
  nodes : l.count ≡ node_count (circuit_of l.work);
  along : IsAlong l.rule l.place l.fn.work l.work;
}

abbrev pub decreases-loop-place : goal.decreases-loop-place
decreases-loop-place g l = 2 ^ 64 - l.place
