use Rattle.std.proofs.Common.{◌≡◌, ◌≤◌, ◌++◌, length}
use Rattle.state_code.specs.Naming.{unused}
use Rattle.state_code.proofs.naming.free_names.Given as goal

abbrev pub invariant-loop-number : goal.invariant-loop-number
invariant-loop-number l = record {
  made : l.names.items ≡ unused l.prefix (l.inputs ++ l.outputs) l.number;
  few : length l.names.items ≤ l.count;
}
