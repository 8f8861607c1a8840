use Rattle.std.proofs.Common.{take}
use Rattle.line_words.specs.LineWords.{texts}
use Rattle.blif_models.specs.Tables.{Adds}
use Rattle.blif_models.proofs.flat.add_inputs.Given as goal

abbrev pub invariant-loop-word : goal.invariant-loop-word
invariant-loop-word l = Adds l.fn.set.keys l.set.keys (texts (take l.word-index l.inputs))
