use Rattle.std.proofs.Common.{◌≡◌, take}
use Rattle.std.specs.List.{filter}
use Rattle.circuit_model.specs.Names.{has}
use Rattle.circuit_tables.specs.Listing.{names_with}
use Rattle.line_words.specs.LineWords.{texts}
use Rattle.blif_gates.specs.GateLines.{signals_of}
use Rattle.blif_models.proofs.port_lines.add_reads.Given as goal

abbrev pub invariant-loop-word : goal.invariant-loop-word
invariant-loop-word l = l.set ≡ names_with l.fn.set (filter (has l.inputs) (signals_of (texts (take l.word-index l.words))))
