use Rattle.std.proofs.Common.{◌≡◌, ◌++◌, take}
use Rattle.line_words.specs.LineWords.{texts}
use Rattle.line_words.proofs.taking.put_names.Given as goal

abbrev pub invariant-loop-word : goal.invariant-loop-word
invariant-loop-word l = l.names.items ≡ l.fn.names.items ++ texts (take l.word-index l.words)
