-- Lines of factored forms, one table after the other.
use Rattle.std.proofs.Common.{ℕ, List, [], ◌∷◌, ◌++◌, refl, sym, ap, ◌∙◌}
use Rattle.std.proofs.lemmas.List.{append_assoc, append-nil}
use Rattle.circuit_model.specs.declared.circuit.Table.{Table}
use Rattle.sis_session.specs.Told.{IsFactorLine, AreFactorLines}

pub lines_of_none : AreFactorLines [] []
unfolding AreFactorLines
lines_of_none = refl

pub lines_more : (before : List Table) (text line : List ℕ) (table : Table) → AreFactorLines before text → IsFactorLine table line
    → AreFactorLines (before ++ table ∷ []) (text ++ line)
unfolding AreFactorLines
lines_more [] text line table are is = (line, [], is, refl, ap (λ (t : List ℕ). t ++ line) are ∙ sym (append-nil line))
lines_more (first ∷ before) text line table (head, rest, same, are, told) is =
    (head, rest ++ line, same, lines_more before rest line table are is, ap (λ (t : List ℕ). t ++ line) told ∙ append_assoc head rest line)
