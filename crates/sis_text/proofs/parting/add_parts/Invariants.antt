use Rattle.std.proofs.Common.{◌≡◌, ◌+◌, ◌++◌, true, drop}
use Rattle.sis_text.specs.Words.{parts_from}
use Rattle.sis_text.proofs.parting.add_parts.Given as goal

abbrev pub invariant-loop-i : goal.invariant-loop-i
invariant-loop-i l =
    l.found ++ parts_from l.mark (l.place + l.i) l.after_mark (drop l.i l.text) ≡ l.fn.found ++ parts_from l.mark l.place true l.text
