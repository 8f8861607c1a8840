use Rattle.std.proofs.Common.{◌≡◌, ◌-◌, ◌≤◌}
use Rattle.state_code.specs.Codes.{least_from, least_bits}
use Rattle.state_code.proofs.codes.least_bits.Given as goal

abbrev pub invariant-loop-bits : goal.invariant-loop-bits
invariant-loop-bits l = record {
  within : l.bits ≤ l.count;
  found : least_from (l.count - l.bits) l.bits l.count ≡ least_bits l.count;
}
