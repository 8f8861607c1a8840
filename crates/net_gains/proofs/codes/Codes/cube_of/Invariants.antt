use Rattle.std.proofs.Common.{◌≡◌, true, take}
use Rattle.net_gains.specs.Codes.{codes_of, is_known, are_codes}
use Rattle.net_gains.proofs.codes.Codes.cube_of.Given as goal

abbrev pub invariant-loop-number : goal.invariant-loop-number
invariant-loop-number l = record {
  numbers : are_codes l.self (take l.number-index l.numbers) ≡ true;
  known : is_known l.self l.literals.items ≡ true;
  codes : codes_of l.self l.literals.items ≡ take l.number-index l.numbers;
}
