-- The latches and tables of a coded machine: their names, and what holds of each.
use Rattle.std.proofs.Common.{◌≡◌, ℕ, suc, ◌+◌, ◌≤◌, Bool, true, false, List, [], ◌∷◌, ◌++◌, map, filter, length, refl, sym, ap, ◌∙◌, subst, arith, length-append}
use Rattle.std.specs.List.{AllByRecursion, AllZip, range_with_len}
use Rattle.std.proofs.lemmas.List.FromFn.{length-map-range_with_len}
use Rattle.circuit_model.specs.Names.{has, all_different}
use Rattle.circuit_model.specs.Runs.{may_start}
use Rattle.circuit_model.specs.Soundness.{outputs_of, IsShaped}
use Rattle.circuit_model.specs.declared.circuit.Tri.{Tri}
use Rattle.circuit_model.specs.declared.circuit.Table.{Table}
use Rattle.circuit_model.specs.declared.circuit.Latch.{Latch}
use Rattle.circuit_model.specs.declared.machine.Machine.{Machine}
use Rattle.circuit_model.specs.declared.machine.MachineRow.{MachineRow}
use Rattle.circuit_tables.specs.Tidy.{IsWide, tidied}
use Rattle.circuit_tables.proofs.Tidied.{tidied_output, tidied_reads, tidied_once, tidied_shaped}
use Rattle.circuit_laws.proofs.Names.{all_from_has}
use Rattle.circuit_laws.proofs.Sound.{all_filter}
use Rattle.state_code.specs.declared.codes.Style.{Style}
use Rattle.state_code.specs.declared.tables.Part.{Part}
use Rattle.state_code.specs.Codes.{code_bit, width_of}
use Rattle.state_code.specs.Encoded.{state_names, code_character, coded_row, specifies_one, table_of, tables_from, init_of, latches_from}

-- latches

pub latches_drive : (style : Style) (state bit : ℕ) (inputs outputs : List (List ℕ))
    → length inputs ≡ length outputs
    → map (λ (latch : Latch). latch.output) (latches_from style state bit inputs outputs) ≡ outputs
unfolding latches_from
latches_drive style state bit [] [] e = refl
latches_drive style state bit [] (output ∷ outputs) e = absurd (omega arith)
latches_drive style state bit (input ∷ inputs) [] e = absurd (omega arith)
latches_drive style state bit (input ∷ inputs) (output ∷ outputs) e =
    ap (λ (names : List (List ℕ)). output ∷ names) (latches_drive style state (bit + 1) inputs
    outputs (omega arith))

pub latches_take : (style : Style) (state bit : ℕ) (inputs outputs : List (List ℕ))
    → length inputs ≡ length outputs
    → map (λ (latch : Latch). latch.input) (latches_from style state bit inputs outputs) ≡ inputs
unfolding latches_from
latches_take style state bit [] [] e = refl
latches_take style state bit [] (output ∷ outputs) e = absurd (omega arith)
latches_take style state bit (input ∷ inputs) [] e = absurd (omega arith)
latches_take style state bit (input ∷ inputs) (output ∷ outputs) e =
    ap (λ (names : List (List ℕ)). input ∷ names) (latches_take style state (bit + 1) inputs outputs
    (omega arith))

init_small : (b : Bool) → init_of b ≤ 3
init_small true = omega arith
init_small false = omega arith

pub latches_begin : (style : Style) (state bit : ℕ) (inputs outputs : List (List ℕ))
    → AllByRecursion (λ (latch : Latch). latch.init ≤ 3)
    (latches_from style state bit inputs outputs)
unfolding latches_from
latches_begin style state bit [] outputs = tt
latches_begin style state bit (input ∷ inputs) [] = tt
latches_begin style state bit (input ∷ inputs) (output ∷ outputs) =
    (init_small (code_bit style state bit), latches_begin style state (bit + 1) inputs outputs)

-- they start at the code
starts_at : (b bit : Bool) → may_start (init_of b) bit → bit ≡ b
starts_at true bit h = h
starts_at false bit h = h

pub latches_start : (style : Style) (state bit : ℕ) (inputs outputs : List (List ℕ))
    (bits : List Bool) → length inputs ≡ length outputs
    → AllZip (λ (latch : Latch) one. may_start latch.init one)
    (latches_from style state bit inputs outputs) bits
    → bits ≡ map (code_bit style state) (range_with_len bit (length inputs))
unfolding latches_from
latches_start style state bit [] [] [] e h = refl
latches_start style state bit [] [] (one ∷ bits) e h = absurd h
latches_start style state bit [] (output ∷ outputs) bits e h = absurd (omega arith)
latches_start style state bit (input ∷ inputs) [] bits e h = absurd (omega arith)
latches_start style state bit (input ∷ inputs) (output ∷ outputs) [] e h = absurd h
latches_start style state bit (input ∷ inputs) (output ∷ outputs) (one ∷ bits) e h =
    rw (
      starts_at (code_bit style state bit) one h.0,
      latches_start style state (bit + 1) inputs
          outputs bits (omega arith) h.1,
    ) refl

-- tables

-- the table before it is tidy
abbrev pub raw_table : Style → Machine → Part → ℕ → List ℕ → Table
raw_table style machine part place name = record {
  inputs = machine.inputs ++ state_names style machine;
  output = name;
  rows = map (coded_row style (width_of style machine)) (filter (specifies_one style part place)
      machine.rows);
  phase = true;
}

pub table_is : (style : Style) (machine : Machine) (part : Part) (place : ℕ) (name : List ℕ)
    → table_of style machine part place name ≡ tidied (raw_table style machine part place name)
unfolding table_of
table_is style machine part place name = refl

pub table_drives : (style : Style) (machine : Machine) (part : Part) (place : ℕ) (name : List ℕ)
    → (table_of style machine part place name).output ≡ name
unfolding table_of
table_drives style machine part place name = tidied_output (raw_table style machine part place name)

pub tables_drive : (style : Style) (machine : Machine) (part : Part) (place : ℕ)
    (names : List (List ℕ)) → outputs_of (tables_from style machine part place names) ≡ names
unfolding tables_from
tables_drive style machine part place [] = refl
tables_drive style machine part place (name ∷ names) =
    ap (λ (first : List ℕ). first ∷ outputs_of (tables_from style machine part (place + 1) names))
    (table_drives style machine part place name)
    ∙ ap (λ (rest : List (List ℕ)). name ∷ rest) (tables_drive style machine part (place + 1) names)

pub length-tables : (style : Style) (machine : Machine) (part : Part) (place : ℕ)
    (names : List (List ℕ)) → length (tables_from style machine part place names) ≡ length names
unfolding tables_from
length-tables style machine part place [] = refl
length-tables style machine part place (name ∷ names) =
    ap suc (length-tables style machine part (place + 1) names)

pub each_table : (P : Table → Type 0) (Q : List ℕ
    → Type 0) (style : Style) (machine : Machine) (part : Part)
    → ((place : ℕ) (name : List ℕ) → Q name → P (table_of style machine part place name))
    → (place : ℕ) (names : List (List ℕ)) → AllByRecursion Q names
    → AllByRecursion P (tables_from style machine part place names)
unfolding tables_from
each_table P Q style machine part h place [] all = tt
each_table P Q style machine part h place (name ∷ names) all =
    (h place name all.0, each_table P Q style machine part h (place + 1) names all.1)

-- rows are as wide as the inputs and state bits
rows_wide : (style : Style) (width wide : ℕ) (rows : List MachineRow)
    → AllByRecursion (λ (row : MachineRow). length row.input + width ≡ wide) rows
    → AllByRecursion (λ (row : List Tri). length row ≡ wide) (map (coded_row style width) rows)
rows_wide style width wide [] h = tt
rows_wide style width wide (row ∷ rows) h =
    let all = length-append row.input
    (map (code_character style row.current) (range_with_len 0 width)) in
    let own = length-map-range_with_len (code_character style row.current) 0 width in
    (omega (arith, h.0), rows_wide style width wide rows h.1)

pub raw_wide : (style : Style) (machine : Machine) (part : Part) (place : ℕ) (name : List ℕ)
    → length (state_names style machine) ≡ width_of style machine
    → AllByRecursion (λ (row : MachineRow). length row.input ≡ length machine.inputs) machine.rows
    → IsWide (raw_table style machine part place name)
raw_wide style machine part place name long shaped =
    rows_wide style (width_of style machine) (length (machine.inputs ++ state_names style machine))
    (filter (specifies_one style part place) machine.rows)
    (all_filter (λ (row : MachineRow). length row.input + width_of style machine ≡ length
    (machine.inputs ++ state_names style machine)) (specifies_one style part place) machine.rows
    (each machine.rows shaped))
  where
    each : (rows : List MachineRow)
        → AllByRecursion (λ (row : MachineRow). length row.input ≡ length machine.inputs) rows
        → AllByRecursion (λ (row : MachineRow). length row.input + width_of style machine ≡ length
        (machine.inputs ++ state_names style machine)) rows
    each [] h = tt
    each (row ∷ rows) h = let all =
        length-append machine.inputs (state_names style machine) in (
          omega (arith, h.0),
          each rows
              h.1,
        )

-- what a table is, and what it reads
pub table_shaped : (style : Style) (machine : Machine) (part : Part) (place : ℕ) (name : List ℕ)
    → length (state_names style machine) ≡ width_of style machine
    → AllByRecursion (λ (row : MachineRow). length row.input ≡ length machine.inputs) machine.rows
    → IsShaped (table_of style machine part place name)
table_shaped style machine part place name long shaped =
    subst IsShaped (sym (table_is style machine part place name))
    (tidied_shaped (raw_table style machine part place name)
    (raw_wide style machine part place name long shaped))

pub table_once : (style : Style) (machine : Machine) (part : Part) (place : ℕ) (name : List ℕ)
    → all_different (table_of style machine part place name).inputs ≡ true
unfolding table_of
table_once style machine part place name = tidied_once (raw_table style machine part place name)

pub table_reads : (P : List ℕ
    → Type 0) (style : Style) (machine : Machine) (part : Part) (place : ℕ) (name : List ℕ)
    → ((input : List ℕ) → has (machine.inputs ++ state_names style machine) input ≡ true → P input)
    → AllByRecursion P (table_of style machine part place name).inputs
unfolding table_of
table_reads P style machine part place name h =
    all_from_has P (tidied (raw_table style machine part place name)).inputs
    (λ input among. h input (tidied_reads (raw_table style machine part place name) input
    among))
