use Rattle.std.proofs.Common.{◌≡◌, ◌++◌, map}
use Rattle.std.specs.List.{range_with_len}
use Rattle.state_code.specs.Encoded.{code_character}
use Rattle.state_code.proofs.tables.coded_row.Given as goal

abbrev pub invariant-loop-bit : goal.invariant-loop-bit
invariant-loop-bit l = l.made ≡ l.row.input ++ map (code_character l.coding.style l.row.current)
    (range_with_len 0 l.bit)
