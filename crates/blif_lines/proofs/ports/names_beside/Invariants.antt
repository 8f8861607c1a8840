use Rattle.std.proofs.Common.{◌≡◌, ◌++◌, drop}
use Rattle.blif_lines.specs.Reader.{names_beside}
use Rattle.blif_lines.proofs.Beside.{new_beside}
use Rattle.blif_lines.proofs.ports.names_beside.Given as goal

abbrev pub invariant-loop-name : goal.invariant-loop-name
invariant-loop-name l = l.found ++ new_beside l.known.keys (drop l.name-index l.names) ≡ names_beside l.others l.names
