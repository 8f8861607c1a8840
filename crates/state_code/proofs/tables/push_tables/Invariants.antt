use Rattle.std.proofs.Common.{◌≡◌, ◌++◌, take}
use Rattle.state_code.specs.Encoded.{tables_from}
use Rattle.state_code.proofs.tables.push_tables.Given as goal

abbrev pub invariant-loop-place : goal.invariant-loop-place
invariant-loop-place l = l.tables.items ≡ l.initial.tables.items ++ tables_from l.coding.style
    l.machine l.part 0 (take l.place l.names)
