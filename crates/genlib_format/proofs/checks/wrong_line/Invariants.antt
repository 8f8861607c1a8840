use Rattle.std.proofs.Common.{◌≡◌, [], drop, take}
use Rattle.genlib_format.specs.Faults.{wrong_line}
use Rattle.genlib_format.proofs.checks.wrong_line.Given as goal

abbrev pub invariant-loop-i : goal.invariant-loop-i
invariant-loop-i l = wrong_line (take l.i l.lines) l.pins (drop l.i l.lines) ≡ wrong_line [] l.pins l.lines
