use Rattle.std.proofs.Common.{◌≡◌, take}
use Rattle.alg_div.specs.Steps.{literals_in}
use Rattle.alg_kernel.proofs.rows.copies_of.Given as goal

abbrev pub invariant-loop-row : goal.invariant-loop-row
invariant-loop-row l = literals_in l.made.items ≡ literals_in (take l.row-index l.rows)
