use Rattle.std.proofs.Common.{◌≡◌, ◌++◌, drop, map}
use Rattle.genlib_format.specs.Words.{lined, line_words}
use Rattle.genlib_format.proofs.words.add_line.Given as goal

abbrev pub invariant-loop-span : goal.invariant-loop-span
invariant-loop-span l = l.found.items ++ map (lined l.number l.text) (drop l.span-index l.span-items) ≡ l.fn.found.items ++ line_words l.number l.line
