use Rattle.std.proofs.Common.{◌≡◌, ◌+◌, ◌++◌, true, drop}
use Rattle.sis_text.specs.Words.{words_from}
use Rattle.sis_text.proofs.parting.add_words.Given as goal

abbrev pub invariant-loop-i : goal.invariant-loop-i
invariant-loop-i l =
    l.found ++ words_from (l.place + l.i) l.after_blank (drop l.i l.line) ≡ l.fn.found ++ words_from l.place true l.line
