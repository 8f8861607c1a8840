use Rattle.std.proofs.Common.{◌≡◌, take}
use Rattle.std.specs.List.{filter}
use Rattle.line_words.specs.LineWords.{texts}
use Rattle.blif_gates.specs.GateLines.{is_pair}
use Rattle.blif_models.proofs.flat.pairs_among.Given as goal

abbrev pub invariant-loop-word : goal.invariant-loop-word
invariant-loop-word l = texts l.pairs.items ≡ filter is_pair (texts (take l.word-index l.words))
