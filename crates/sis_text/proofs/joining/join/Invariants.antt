use Rattle.std.proofs.Common.{◌≡◌, ◌+◌, ◌++◌, drop}
use Rattle.std.specs.List.{filter}
use Rattle.sis_text.specs.Lines.{join_lines, has_words}
use Rattle.sis_text.specs.Joining.{resume}
use Rattle.sis_text.proofs.joining.join.Given as goal

abbrev pub invariant-loop-i : goal.invariant-loop-i
invariant-loop-i l =
    l.lines ++ filter has_words (resume l.begun (join_lines l.source (l.i + 1) (drop l.i l.physical))) ≡ filter has_words (join_lines l.source 1 l.physical)
