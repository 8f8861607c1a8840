use Rattle.std.proofs.Common.{◌≡◌, take}
use Rattle.blif_lines.specs.Lines.{joined}
use Rattle.line_words.specs.LineWords.{texts}
use Rattle.blif_lines.proofs.word_list.joined.Given as goal

abbrev pub invariant-loop-word : goal.invariant-loop-word
invariant-loop-word l = l.bytes.items ≡ joined (texts (take l.word-index l.words))
