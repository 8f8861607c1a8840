use Rattle.std.proofs.Common.{◌≡◌, ◌-◌, ◌≤◌, drop, length}
use Rattle.net_core.specs.Fresh.{node_count}
use Rattle.net_work.specs.Placed.{circuit_of}
use Rattle.net_decomp.specs.Sums.{IsSumOn}
use Rattle.net_decomp.proofs.sums.part_literals.Given as goal

abbrev pub invariant-loop-first : goal.invariant-loop-first
invariant-loop-first g l = record {
  nodes : l.count ≡ node_count (circuit_of l.work);
  within : l.first ≤ length l.literals.items;
  on : IsSumOn l.fn.rule l.place l.phase l.fn.work l.names (drop l.first l.literals.items) l.work;
}

abbrev pub decreases-loop-first : goal.decreases-loop-first
decreases-loop-first g l = length l.literals.items - l.first
