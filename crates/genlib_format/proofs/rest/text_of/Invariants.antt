use Rattle.std.proofs.Common.{◌≡◌, ◌++◌, drop}
use Rattle.genlib_format.specs.Statements.{text_of}
use Rattle.genlib_format.proofs.rest.text_of.Given as goal

abbrev pub invariant-loop-lined : goal.invariant-loop-lined
invariant-loop-lined l = l.text.items ++ text_of (drop l.lined-index l.words) ≡ text_of l.words
