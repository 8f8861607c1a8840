use Rattle.std.proofs.Common.{◌≡◌, Some, map, take}
use Rattle.net_func.specs.Numbering.{number_in}
use Rattle.net_func.proofs.numbers.Numbers.all_known.Given as goal

-- the numbers of the names so far
abbrev pub invariant-loop-name : goal.invariant-loop-name
invariant-loop-name l = map Some l.numbers.items ≡ map (number_in l.self) (take l.name-index
    l.names)
