use Rattle.std.proofs.Common.{◌≡◌, true, take}
use Rattle.net_gains.specs.Codes.{codes_of, is_known}
use Rattle.net_gains.proofs.codes.Codes.cube.Given as goal

abbrev pub invariant-loop-literal : goal.invariant-loop-literal
invariant-loop-literal l = record {
  known : is_known l.self (take l.literal-index l.cube) ≡ true;
  codes : l.codes.items ≡ codes_of l.self (take l.literal-index l.cube);
}
