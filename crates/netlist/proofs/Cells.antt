-- What holds of the tables of cells.
use Rattle.std.proofs.Common.{◌≡◌, ℕ, ◌+◌, ◌-◌, ◌≤◌, Bool, true, Option, Some, None, List, [], ◌∷◌, ◌++◌, map, take, length, refl, sym, ◌∙◌, ap, subst, arith, length-append}
use Rattle.std.specs.Prelude.{slice_index_or, option_map}
use Rattle.std.specs.List.{AllByRecursion}
use Rattle.std.proofs.lemmas.List.{length-map, length-take}
use Rattle.circuit_model.specs.Values.{table_value}
use Rattle.circuit_model.specs.Soundness.{IsShaped}
use Rattle.circuit_model.specs.declared.circuit.Tri.{Tri}
use Rattle.circuit_tables.specs.Folding.{folded}
use Rattle.circuit_tables.proofs.Folded.{folded_value, folded_output}
use Rattle.genlib_expr.specs.Formula.{formula_of}
use Rattle.genlib_expr.specs.Functions.{function_of}
use Rattle.genlib_format.specs.Reader.{gate_named}
use Rattle.genlib_format.specs.declared.gate.Gate.{Gate}
use Rattle.blif_gates.specs.GateLines.{gate_rows, gate_table, signal_for}
use Rattle.blif_gates.proofs.Told.{shaped, valued}
use Rattle.netlist.specs.Netlists.{pins_of, signals_of, cell_table, placed_table, IsPlaced}
use Rattle.netlist.specs.Figures.{driven_by}
use Rattle.netlist.specs.declared.mapped.Connection.{Connection}
use Rattle.netlist.specs.declared.mapped.Placed.{Placed}

at_pins : (gate : Gate) (signals : List (List ℕ)) → length gate.pins ≤ length signals → length (take (length gate.pins) signals) ≡ length gate.pins
at_pins gate signals long = grind (arith, length-take)

-- the rows of a gate's table are as long as its list of pins
pub cell_shaped : (gate : Gate) (signals : List (List ℕ)) → length gate.pins ≤ length signals → IsShaped (cell_table gate signals)
unfolding cell_table gate_table
cell_shaped gate signals long =
    let width : length (map (signal_for []) gate.pins) ≡ length (take (length gate.pins) signals)
    = length-map gate.pins (signal_for []) ∙ sym (at_pins gate signals long) in
    (subst (λ (n : ℕ). AllByRecursion (λ (row : List Tri). length row ≡ n) (gate_rows gate)) width (shaped gate []).0, λ e. refl)

pub cell_valued : (gate : Gate) (signals : List (List ℕ)) (value : List ℕ → Bool) → length gate.pins ≤ length signals
    → table_value (folded (cell_table gate signals)) (map value (folded (cell_table gate signals)).inputs) ≡ function_of (formula_of gate.expr) (map value (take (length gate.pins) signals))
unfolding cell_table gate_table table_value
cell_valued gate signals value long =
    folded_value (cell_table gate signals) value
    ∙ valued gate [] (map value (take (length gate.pins) signals)) (length-map (take (length gate.pins) signals) value ∙ at_pins gate signals long)

-- the table of a placed gate is that of its cell
pub placed_has_table : (library : List Gate) (placed : Placed) (by : IsPlaced library placed) → placed_table library placed ≡ Some (folded (cell_table by.gate (signals_of placed)))
unfolding placed_table
placed_has_table library placed by =
    ap (λ (found : Option Gate). option_map (λ (gate : Gate). folded (cell_table gate (signals_of placed))) found) by.known

pub placed_signals : (library : List Gate) (placed : Placed) (by : IsPlaced library placed) → length (signals_of placed) ≡ length by.gate.pins + 1
placed_signals library placed by =
    length-map placed.pins (λ (c : Connection). c.signal)
    ∙ sym (length-map placed.pins (λ (c : Connection). c.pin))
    ∙ ap (λ (names : List (List ℕ)). length names) by.pins
    ∙ length-append by.gate.pins (by.gate.output ∷ [])

pub placed_driven : (library : List Gate) (placed : Placed) (by : IsPlaced library placed) → (folded (cell_table by.gate (signals_of placed))).output ≡ driven_by placed
unfolding cell_table
placed_driven library placed by =
    let count : length placed.pins ≡ length by.gate.pins + 1
    = sym (length-map placed.pins (λ (c : Connection). c.signal)) ∙ placed_signals library placed by in
    let place : length by.gate.pins ≡ length placed.pins - 1 = omega (arith, count) in
    folded_output (cell_table by.gate (signals_of placed)) ∙ ap (λ (n : ℕ). slice_index_or (signals_of placed) n []) place
