-- Tables that are constant as functions, and the one way in which a constant is written. Source: De
-- Micheli, "Synthesis and Optimization of Digital Circuits", chapter 7 (tautology): a function is
-- constant if it has one value at every point.
use Rattle.std.specs.Prelude.{ℕ, zero, suc, Bool, true, false, not, ◌&&◌, Option, Some, None, List, [], ◌∷◌, length, if◌then◌else◌}
use Rattle.circuit_model.specs.Values.{table_value}
use Rattle.circuit_model.specs.declared.circuit.Tri.{Tri}
use Rattle.circuit_model.specs.declared.circuit.Table.{Table}

-- whether a test holds at every point of a width
unfoldable pub every_point : ℕ → (List Bool → Bool) → Bool
every_point zero test = test []
every_point (suc width) test = every_point width (λ point. test (false ∷ point)) && every_point width (λ point. test (true ∷ point))

-- the bit that a table has at every point, if it has one
unfoldable pub constant_bit : Table → Option Bool
constant_bit table =
    if every_point (length table.inputs) (λ point. table_value table point) then Some true
    else (if every_point (length table.inputs) (λ point. not (table_value table point)) then Some false else None)

-- the constant as which a table with these inputs, phase and rows is written
abbrev pub bit_by : List (List ℕ) → Bool → List (List Tri) → Option Bool
bit_by [] true [] = Some false
bit_by [] true ([] ∷ []) = Some true
bit_by inputs phase rows = None

-- the constant as which a table is written: no inputs and phase 1, without a row for 0, with one
-- row for 1
unfoldable pub written_bit : Table → Option Bool
written_bit table = bit_by table.inputs table.phase table.rows
