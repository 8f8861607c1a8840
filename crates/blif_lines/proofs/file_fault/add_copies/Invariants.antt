use Rattle.std.proofs.Common.{◌≡◌, ◌++◌, take}
use Rattle.blif_lines.proofs.file_fault.add_copies.Given as goal

abbrev pub invariant-loop-name : goal.invariant-loop-name
invariant-loop-name l = l.names ≡ l.fn.names ++ take l.name-index l.others
