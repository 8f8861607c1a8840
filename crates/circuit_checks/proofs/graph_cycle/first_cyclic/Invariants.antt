use Rattle.std.proofs.Common.{◌≡◌, ◌-◌, length, find}
use Rattle.std.specs.List.{range_with_len}
use Rattle.circuit_checks.specs.Graphs.{is_cyclic, first_cyclic}
use Rattle.circuit_checks.proofs.graph_cycle.first_cyclic.Given as goal

abbrev pub invariant-loop-place : goal.invariant-loop-place
invariant-loop-place l = find (is_cyclic l.graph) (range_with_len l.place (length l.graph - l.place)) ≡ first_cyclic l.graph
