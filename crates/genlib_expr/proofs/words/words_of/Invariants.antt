use Rattle.std.proofs.Common.{◌≡◌, ◌++◌, false, drop}
use Rattle.genlib_expr.specs.Text.{words_from}
use Rattle.genlib_expr.specs.Texts.{texts}
use Rattle.genlib_expr.proofs.words.words_of.Given as goal

abbrev pub invariant-loop-i : goal.invariant-loop-i
invariant-loop-i l = texts l.words.items ++ words_from l.inside (drop l.i l.text) ≡ words_from false l.text
