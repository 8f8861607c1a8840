use Rattle.std.proofs.Common.{◌≡◌, ◌++◌, drop, length}
use Rattle.circuit_model.specs.Runs.{run}
use Rattle.circuit_model.proofs.simulation.run_over.Given as goal

abbrev pub invariant-loop-row : goal.invariant-loop-row
invariant-loop-row l = record {
  so_far : l.all_shown ++ run l.circuit l.state.items (drop l.row-index l.rows) ≡ run l.circuit l.start l.rows;
  width : length l.state.items ≡ length l.circuit.latches;
}
