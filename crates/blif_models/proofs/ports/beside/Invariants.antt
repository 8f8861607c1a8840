use Rattle.std.proofs.Common.{◌≡◌, take}
use Rattle.std.specs.Prelude.{[], not}
use Rattle.std.specs.List.{filter}
use Rattle.circuit_model.specs.Names.{has}
use Rattle.circuit_tables.specs.Listing.{names_with}
use Rattle.line_words.specs.LineWords.{texts}
use Rattle.blif_models.proofs.ports.beside.Given as goal

abbrev pub invariant-loop-word : goal.invariant-loop-word
invariant-loop-word l = l.set ≡ names_with [] (filter (λ one. not (has l.others one)) (texts (take l.word-index l.word-items)))
