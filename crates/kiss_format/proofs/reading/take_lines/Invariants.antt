use Rattle.kiss_format.proofs.Walk.{IsBefore}
use Rattle.kiss_format.proofs.reading.take_lines.Given as goal

abbrev pub invariant-loop-line : goal.invariant-loop-line
invariant-loop-line l = IsBefore l.source l.lines l.line-index l.draft
