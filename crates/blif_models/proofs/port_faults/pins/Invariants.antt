use Rattle.std.proofs.Common.{◌≡◌, take, []}
use Rattle.circuit_tables.specs.Listing.{names_with}
use Rattle.line_words.specs.LineWords.{texts}
use Rattle.blif_gates.specs.GateLines.{pins_of}
use Rattle.blif_models.proofs.port_faults.pins.Given as goal

abbrev pub invariant-loop-word : goal.invariant-loop-word
invariant-loop-word l = l.set ≡ names_with [] (pins_of (texts (take l.word-index l.words)))
