use Rattle.std.proofs.Common.{◌≡◌, ◌++◌, take, map}
use Rattle.sis_base.specs.Written.{lines_text}
use Rattle.netlist.specs.Lines.{gate_line}
use Rattle.blif_write.proofs.writing.put_gates.Given as goal

abbrev pub invariant-loop-gate : goal.invariant-loop-gate
invariant-loop-gate l = l.out.items ≡ l.fn.out.items ++ lines_text (map gate_line (take l.gate-index l.gates))
