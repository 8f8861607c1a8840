use Rattle.std.proofs.Common.{◌≡◌, ◌+◌, ◌++◌, drop}
use Rattle.genlib_expr.specs.Texts.{texts}
use Rattle.genlib_format.specs.Words.{words_from}
use Rattle.genlib_format.proofs.words.words_of.Given as goal

abbrev pub invariant-loop-i : goal.invariant-loop-i
invariant-loop-i l = l.found.items ++ words_from (l.i + 1) (texts (drop l.i l.lines.items)) ≡ words_from 1 (texts l.lines.items)
