use Rattle.std.proofs.Common.{◌≡◌, map, take}
use Rattle.line_words.specs.LineWords.{texts}
use Rattle.blif_gates.specs.GateLines.{signal_for}
use Rattle.blif_gates.proofs.reading.signals_for.Given as goal

abbrev pub invariant-loop-pin : goal.invariant-loop-pin
invariant-loop-pin l = l.names ≡ map (signal_for (texts l.words)) (take l.pin-index l.pins)
