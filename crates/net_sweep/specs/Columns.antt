-- Rows of tables that read a constant, where marks say which columns are those of the signal.
-- Source: the SIS manual (UCB/ERL M92/41), `sweep`.
use Rattle.std.specs.Prelude.{Bool, true, false, Option, Some, None, List, [], ◌∷◌, if◌then◌else◌}
use Rattle.std.specs.Option.{option_map}
use Rattle.circuit_model.specs.declared.circuit.Tri.{Tri}
use Rattle.circuit_model.specs.declared.circuit.Tri.TheVariants.{Zero, Free}
use Rattle.net_wires.specs.Rules.{asks_against}

-- a row in which the signal of the marked columns has a bit: its literals are removed, or the row
-- is, if one contradicts
unfoldable pub row_at_marks : Bool → List Bool → List Tri → Option (List Tri)
row_at_marks bit [] row = Some row
row_at_marks bit (mark ∷ marks) [] = Some []
row_at_marks bit (mark ∷ marks) (place ∷ row) =
    if mark
    then (if asks_against bit place then None else option_map (λ (rest : List Tri). Free ∷ rest) (row_at_marks bit marks row))
    else option_map (λ (rest : List Tri). place ∷ rest) (row_at_marks bit marks row)

-- whether a row does not ask its first input to be 0
abbrev pub opens_at_one : List Tri → Bool
opens_at_one (Zero ∷ row) = false
opens_at_one row = true
