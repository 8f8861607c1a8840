use Rattle.std.proofs.Common.{subst, ◌≡◌, ◌∷◌, true}
use Rattle.std.specs.List.{AllByRecursion}
use Rattle.circuit_model.specs.Names.{has}
use Rattle.circuit_model.specs.declared.circuit.Table.{Table}
use Rattle.blif_gates.specs.GateLines.{signals_of}
use Rattle.blif_gates.proofs.Told.{told, named_by_signals}
use Rattle.blif_gates.proofs.laws.names_are_signals.Goals as goal

pub returns : goal.returns
returns c library cell words table e =
    let t = told library cell words table e in
    subst (λ (table : Table). AllByRecursion (λ name. has (signals_of words) name ≡ true) (table.output ∷ table.inputs)) t.is (named_by_signals t.gate words t.pairs)
