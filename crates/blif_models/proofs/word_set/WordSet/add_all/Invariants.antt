use Rattle.std.proofs.Common.{◌≡◌, take}
use Rattle.circuit_tables.specs.Listing.{names_with}
use Rattle.line_words.specs.LineWords.{texts}
use Rattle.blif_models.proofs.word_set.WordSet.add_all.Given as goal

abbrev pub invariant-loop-word : goal.invariant-loop-word
invariant-loop-word l = l.self ≡ names_with l.fn.self (texts (take l.word-index l.words))
