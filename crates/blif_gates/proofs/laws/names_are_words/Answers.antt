use Rattle.std.proofs.Common.{subst, ◌≡◌, ◌∷◌, true}
use Rattle.std.specs.List.{AllByRecursion}
use Rattle.sis_base.specs.Written.{is_word}
use Rattle.circuit_model.specs.declared.circuit.Table.{Table}
use Rattle.blif_gates.proofs.Told.{told, named_by_words}
use Rattle.blif_gates.proofs.laws.names_are_words.Goals as goal

pub returns : goal.returns
returns c library cell words table all e =
    let t = told library cell words table e in
    subst (λ (table : Table). AllByRecursion (λ name. is_word name ≡ true) (table.output ∷ table.inputs)) t.is (named_by_words t.gate words all t.pairs)
