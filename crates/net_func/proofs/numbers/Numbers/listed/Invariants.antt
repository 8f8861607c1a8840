use Rattle.std.proofs.Common.{take}
use Rattle.net_func.specs.Numbering.{number_in, IsListing}
use Rattle.net_func.proofs.numbers.Numbers.listed.Given as goal

-- the names so far, with their numbers
abbrev pub invariant-loop-name : goal.invariant-loop-name
invariant-loop-name l = IsListing (number_in l.self) (take l.name-index l.names) l.list.items
