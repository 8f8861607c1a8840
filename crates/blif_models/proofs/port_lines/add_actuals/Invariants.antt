use Rattle.std.proofs.Common.{◌≡◌, take}
use Rattle.std.specs.List.{filter}
use Rattle.circuit_tables.specs.Listing.{names_with}
use Rattle.line_words.specs.LineWords.{texts}
use Rattle.blif_gates.specs.GateLines.{is_pair}
use Rattle.blif_models.specs.Ports.{actuals_of}
use Rattle.blif_models.specs.Sides.{formals_on}
use Rattle.blif_models.proofs.port_lines.add_actuals.Given as goal

abbrev pub invariant-loop-word : goal.invariant-loop-word
invariant-loop-word l = l.set ≡ names_with l.fn.set (actuals_of (formals_on l.side l.ports) (filter is_pair (texts (take l.word-index l.words))))
