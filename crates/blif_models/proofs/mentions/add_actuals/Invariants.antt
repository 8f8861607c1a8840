use Rattle.std.proofs.Common.{◌≡◌, ◌++◌, take}
use Rattle.line_words.specs.LineWords.{texts}
use Rattle.blif_gates.specs.GateLines.{signals_of}
use Rattle.blif_models.proofs.mentions.add_actuals.Given as goal

abbrev pub invariant-loop-pair : goal.invariant-loop-pair
invariant-loop-pair l = l.names ≡ l.fn.names ++ signals_of (texts (take l.pair-index l.pairs))
