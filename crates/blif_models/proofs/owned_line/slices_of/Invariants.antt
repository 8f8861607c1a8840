use Rattle.std.proofs.Common.{◌≡◌, take}
use Rattle.line_words.specs.LineWords.{texts}
use Rattle.blif_models.proofs.owned_line.slices_of.Given as goal

abbrev pub invariant-loop-word : goal.invariant-loop-word
invariant-loop-word l = texts l.slices.items ≡ take l.word-index l.words
