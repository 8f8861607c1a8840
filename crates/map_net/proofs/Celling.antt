-- Placed gates: their cells in the library, and their tables.
use Rattle.std.proofs.Common.{◌≡◌, ℕ, zero, suc, ◌≤◌, Bool, true, false, cond, Option, Some}
use Rattle.std.proofs.Common.{List, [], ◌∷◌, ◌++◌, map, take, length, bytes_eq, refl, sym, ap, ◌∙◌}
use Rattle.std.proofs.Common.{arith, length-append}
use Rattle.std.specs.Prelude.{slice_get, slice_index_or, find}
use Rattle.std.specs.Option.{option_map_or}
use Rattle.std.proofs.lemmas.Bool.{false≢true}
use Rattle.std.proofs.lemmas.List.{length-map, map-append}
use Rattle.std.proofs.lemmas.Option.{none-some, same_Some}
use Rattle.std.proofs.Math.Seq.{take-append_seam, get_or-append_seam}
use Rattle.circuit_model.specs.Names.{has, all_different}
use Rattle.circuit_model.specs.Values.{driven_value}
use Rattle.circuit_model.specs.Soundness.{IsShaped}
use Rattle.circuit_model.specs.declared.circuit.Table.{Table}
use Rattle.circuit_laws.proofs.Names.{same_name, name_itself}
use Rattle.circuit_tables.specs.Folding.{folded}
use Rattle.circuit_tables.proofs.Folded.{folded_output, folded_reads, folded_shaped, folded_once}
use Rattle.genlib_expr.specs.Formula.{formula_of}
use Rattle.genlib_expr.specs.Functions.{function_of}
use Rattle.genlib_format.specs.Reader.{gate_named}
use Rattle.genlib_format.specs.Soundness.{IsSoundGates, IsOneCell}
use Rattle.genlib_format.specs.declared.gate.Gate.{Gate}
use Rattle.netlist.specs.Netlists.{pins_of, signals_of, cell_table, placed_table, IsPlaced}
use Rattle.netlist.specs.Figures.{area_of, driven_by}
use Rattle.netlist.specs.declared.mapped.Connection.{Connection}
use Rattle.netlist.specs.declared.mapped.Placed.{Placed}
use Rattle.netlist.proofs.Cells.{cell_shaped, cell_valued, placed_has_table, placed_driven}
use Rattle.map_net.specs.Mapping.{connected, placed_as}

-- the first thing that passes a test, where some thing does
found_first : {X : Type 0} (p : X → Bool) (xs : List X) (i : ℕ) (x : X) → slice_get xs i ≡ Some x
    → p x ≡ true → (j : ℕ) × (y : X) × (find p xs ≡ Some y) × (slice_get xs j ≡ Some y) × (p y ≡
    true)
found_first p [] i x at passes = absurd (none-some x at)
found_first {X} p (first ∷ xs) i x at passes = cases (p first) refl i at
    (λ k here. found_first p xs k x here passes)
  where
    cases : (b : Bool) → p first ≡ b → (k : ℕ) → slice_get (first ∷ xs) k ≡ Some x
        → ((k : ℕ) → slice_get xs k ≡ Some x
        → (j : ℕ) × (y : X) × (find p xs ≡ Some y) × (slice_get xs j ≡ Some y) × (p y ≡ true))
        → (j : ℕ) × (y : X) × (cond b (Some first) (find p xs) ≡ Some y)
        × (slice_get (first ∷ xs) j ≡ Some y) × (p y ≡ true)
    cases true e k here rest = (0, first, refl, refl, e)
    cases false e zero here rest =
        absurd (false≢true (sym e ∙ ap p (same_Some first x here) ∙ passes))
    cases false e (suc k) here rest =
        let (j, y, found, there, yes_passes) = rest k here in (suc j, y, found, there, yes_passes)

-- the gate that a library knows by the name of a cell is one cell with it
pub record IsKnown (library : List Gate) (cell : Gate) : Type 0 where
  pub gate : Gate
  pub known : gate_named library cell.cell ≡ Some gate
  pub one : IsOneCell gate cell

pub known_cell : (library : List Gate) → IsSoundGates library → (place : ℕ) (cell : Gate)
    → slice_get library place ≡ Some cell → IsKnown library cell
unfolding gate_named
known_cell library sound place cell at =
    let (j, gate, found, there, same) = found_first (λ (gate : Gate). bytes_eq cell.cell gate.cell)
    library place cell at (name_itself cell.cell) in
    record {
      gate = gate;
      known = found;
      one = sound.cells j place gate cell there at (sym (same_name cell.cell gate.cell same));
    }

-- pins with as many signals
connected_pins : (pins signals : List (List ℕ)) → length signals ≡ length pins
    → map (λ (c : Connection). c.pin) (connected pins signals) ≡ pins
unfolding connected
connected_pins [] signals e = refl
connected_pins (pin ∷ pins) [] e = absurd (omega (arith, e))
connected_pins (pin ∷ pins) (signal ∷ signals) e =
    ap (λ (names : List (List ℕ)). pin ∷ names) (connected_pins pins signals (omega (arith, e)))

connected_signals : (pins signals : List (List ℕ)) → length signals ≡ length pins
    → map (λ (c : Connection). c.signal) (connected pins signals) ≡ signals
unfolding connected
connected_signals [] [] e = refl
connected_signals [] (signal ∷ signals) e = absurd (omega (arith, e))
connected_signals (pin ∷ pins) [] e = absurd (omega (arith, e))
connected_signals (pin ∷ pins) (signal ∷ signals) e =
    ap (λ (names : List (List ℕ)). signal ∷ names) (connected_signals pins signals (omega (
      arith,
      e,
    )))

placed_pins : (cell : Gate) (signals : List (List ℕ)) (output : List ℕ)
    → length signals ≡ length cell.pins
    → pins_of (placed_as cell signals output) ≡ cell.pins ++ cell.output ∷ []
placed_pins cell signals output e =
    map-append (λ (c : Connection). c.pin) (connected cell.pins signals) (record {
      pin = cell.output;
      signal = output;
    } ∷ [])
    ∙ ap (λ (names : List (List ℕ)). names ++ cell.output ∷ []) (connected_pins cell.pins signals e)

placed_signals_are : (cell : Gate) (signals : List (List ℕ)) (output : List ℕ)
    → length signals ≡ length cell.pins
    → signals_of (placed_as cell signals output) ≡ signals ++ output ∷ []
placed_signals_are cell signals output e =
    map-append (λ (c : Connection). c.signal) (connected cell.pins signals) (record {
      pin = cell.output;
      signal = output;
    } ∷ [])
    ∙ ap (λ (names : List (List ℕ)). names ++ output ∷ []) (connected_signals cell.pins signals e)

-- a gate that is placed as a cell of a sound library is placed by that library
pub placed_by : (library : List Gate) (cell : Gate) (signals : List (List ℕ)) (output : List ℕ)
    → length signals ≡ length cell.pins → IsKnown library cell
    → IsPlaced library (placed_as cell signals output)
placed_by library cell signals output e known = record {
  gate = known.gate;
  known = known.known;
  pins = placed_pins cell signals output e
      ∙ sym (ap (λ (names : List (List ℕ)). names ++ known.gate.output ∷ []) known.one.pins
      ∙ ap (λ (name : List ℕ). cell.pins ++ name ∷ []) known.one.output);
}

-- the table of a cell between signals
pub record IsCellTable (cell : Gate) (signals : List (List ℕ)) (output : List ℕ) (table : Table) :
    Type 0 where
  pub output_is : table.output ≡ output
  pub reads : (name : List ℕ) → has table.inputs name ≡ true → has signals name ≡ true
  pub value : (new : List ℕ → Bool)
      → driven_value (Some table) new ≡ function_of (formula_of cell.expr) (map new signals)
  pub shaped : IsShaped table
  pub once : all_different table.inputs ≡ true

cell_table_is : (gate cell : Gate) (signals : List (List ℕ)) (output : List ℕ)
    → IsOneCell gate cell → length signals ≡ length cell.pins
    → IsCellTable cell signals output (folded (cell_table gate (signals ++ output ∷ [])))
unfolding cell_table
cell_table_is gate cell signals output one e = record {
  output_is = folded_output (cell_table gate all)
      ∙ ap (λ (n : ℕ). slice_index_or all n []) count ∙ get_or-append_seam signals output [] [];
  reads = λ name h. ap (λ (names : List (List ℕ)). has names name) (sym at_pins)
      ∙ folded_reads (cell_table gate all) name h;
  value = λ new.
      cell_valued gate all new long
      ∙ ap (λ (names : List (List ℕ)). function_of (formula_of gate.expr) (map new names)) at_pins
      ∙ one.function (map new signals) (length-map signals new ∙ sym count);
  shaped = folded_shaped (cell_table gate all) (cell_shaped gate all long);
  once = folded_once (cell_table gate all);
}
  where
    all : List (List ℕ)
    all = signals ++ output ∷ []

    count : length gate.pins ≡ length signals
    count = ap (λ (names : List (List ℕ)). length names) one.pins ∙ sym e

    at_pins : take (length gate.pins) all ≡ signals
    at_pins = ap (λ (n : ℕ). take n all) count ∙ take-append_seam signals (output ∷ [])

    long : length gate.pins ≤ length all
    long = omega (arith, count, length-append signals (output ∷ []))

pub record HasCellTable (library : List Gate) (cell : Gate) (signals : List (List ℕ))
    (output : List ℕ) (placed : Placed) : Type 0 where
  pub table : Table
  pub at : placed_table library placed ≡ Some table
  pub is : IsCellTable cell signals output table

pub placed_cell_table : (library : List Gate) (cell : Gate) (signals : List (List ℕ))
    (output : List ℕ) → length signals ≡ length cell.pins → IsKnown library cell
    → HasCellTable library cell signals output (placed_as cell signals output)
unfolding placed_by
placed_cell_table library cell signals output e known = record {
  table = folded (cell_table known.gate (signals ++ output ∷ []));
  at = placed_has_table library (placed_as cell signals output) (placed_by library cell signals
      output e known)
      ∙ ap (λ (names : List (List ℕ)). Some (folded (cell_table known.gate names)))
      (placed_signals_are cell signals output e);
  is = cell_table_is known.gate cell signals output known.one e;
}

-- the area of a placed gate, and what it drives
pub placed_area : (library : List Gate) (cell : Gate) (signals : List (List ℕ)) (output : List ℕ)
    → IsKnown library cell → area_of library (placed_as cell signals output) ≡ cell.area.0
placed_area library cell signals output known =
    ap (λ (found : Option Gate). option_map_or (λ (gate : Gate). gate.area.0) found 0) known.known
    ∙ ap (λ area. area.0) known.one.area

pub placed_drives : (library : List Gate) (cell : Gate) (signals : List (List ℕ)) (output : List ℕ)
    → length signals ≡ length cell.pins → IsKnown library cell
    → driven_by (placed_as cell signals output) ≡ output
unfolding placed_by
placed_drives library cell signals output e known =
    sym (placed_driven library (placed_as cell signals output) (placed_by library cell signals
    output e known))
    ∙ ap (λ (names : List (List ℕ)). (folded (cell_table known.gate names)).output)
    (placed_signals_are cell signals output e)
    ∙ (cell_table_is known.gate cell signals output known.one e).output_is
