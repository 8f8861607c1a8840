use Rattle.std.proofs.Common.{take}
use Rattle.line_words.specs.LineWords.{texts}
use Rattle.blif_models.specs.Renaming.{looked_up, IsIndex}
use Rattle.blif_models.proofs.pairs.index_of.Given as goal

abbrev pub invariant-loop-pair : goal.invariant-loop-pair
invariant-loop-pair l = IsIndex (texts (take l.pair-index l.pairs)) (looked_up l.actuals)
