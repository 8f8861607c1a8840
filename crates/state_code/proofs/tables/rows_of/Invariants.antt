use Rattle.std.proofs.Common.{◌≡◌, map, filter, take}
use Rattle.state_code.specs.Encoded.{coded_row, specifies_one}
use Rattle.state_code.proofs.tables.rows_of.Given as goal

abbrev pub invariant-loop-row : goal.invariant-loop-row
invariant-loop-row l =
    l.made.items ≡ map (coded_row l.coding.style l.coding.width)
    (filter (specifies_one l.coding.style l.column.part l.column.place)
    (take l.row-index l.rows))
