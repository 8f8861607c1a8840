-- How large the circuit of a coded machine is.
use Rattle.std.proofs.Common.{◌≡◌, ℕ, suc, ◌+◌, ◌*◌, ◌^◌, ◌<◌, ◌≤◌, ◌==◌, Bool, true, false, cond, Option, Some, None, List, [], ◌∷◌, ◌++◌, flat_map, filter, length, option_to_list, refl, sym, ap, ◌∙◌, subst, arith, length-append, if◌then◌else◌}
use Rattle.std.specs.List.{list_any}
use Rattle.std.proofs.lemmas.List.{length-map}
use Rattle.std.proofs.lemmas.List.FromFn.{length-range_with_len}
use Rattle.sis_base.specs.declared.limits.TheConstants.{MAX_INPUTS}
use Rattle.circuit_model.specs.MachineSoundness.{IsSoundMachine, mentioned_by, first_mentions}
use Rattle.circuit_model.specs.declared.circuit.Tri.{Tri}
use Rattle.circuit_model.specs.declared.circuit.Table.{Table}
use Rattle.circuit_model.specs.declared.circuit.Latch.{Latch}
use Rattle.circuit_model.specs.declared.machine.Machine.{Machine}
use Rattle.circuit_model.specs.declared.machine.MachineRow.{MachineRow}
use Rattle.circuit_tables.specs.Tidy.{chosen, used_places, rows_once, some_row_or_phase_one, narrowed, with_rows_once}
use Rattle.circuit_tables.proofs.Tidied.{tidied_is, chosen_small, once_small}
use Rattle.net_core.specs.Reads.{IsBounded, HasBounds}
use Rattle.state_code.specs.declared.codes.Style.{Style}
use Rattle.state_code.specs.declared.tables.Part.{Part}
use Rattle.state_code.specs.declared.tables.Part.TheVariants.{Next, Output}
use Rattle.state_code.specs.Codes.{width_of, leaf_count}
use Rattle.state_code.specs.Encoded.{state_names, next_names, coded_row, specifies_one, table_of, tables_from, latches_from, encoded}
use Rattle.state_code.proofs.Parts.{latches_take, length-tables, raw_table, table_is}
use Rattle.state_code.proofs.CircuitSound.{states_long, nexts_long, same_long, leaves_differ, each_one}

-- a machine has at most two states for each row

mentions_few : (known numbers : List ℕ)
    → length (first_mentions known numbers) ≤ length known + length numbers
unfolding first_mentions
mentions_few known [] = omega arith
mentions_few known (n ∷ numbers) =
    cases (list_any (λ one. n == one) known) (λ front. mentions_few front numbers)
  where
    cases : (b : Bool) → ((front : List ℕ)
        → length (first_mentions front numbers) ≤ length front + length numbers)
        → length (first_mentions (if b then known else known ++ n ∷ []) numbers) ≤ length known
        + suc (length numbers)
    cases true rest = let few = rest known in omega arith
    cases false rest = let few = rest (known ++ n ∷ []) in let all =
        length-append known (n ∷ []) in omega arith

one_at_most : (o : Option ℕ) → length (option_to_list o) ≤ 1
one_at_most None = omega arith
one_at_most (Some n) = omega arith

mentioned_few : (rows : List MachineRow) → length (flat_map mentioned_by rows) ≤ 2 * length rows
mentioned_few [] = omega arith
mentioned_few (row ∷ rows) =
    let rest = mentioned_few rows in
    let all = length-append (mentioned_by row) (flat_map mentioned_by rows) in
    let own = length-append (option_to_list row.current) (option_to_list row.next) in
    let current = one_at_most row.current in
    let next = one_at_most row.next in
    omega arith

pub states_few : (machine : Machine) → IsSoundMachine machine → length machine.states < 2 ^ 30
states_few machine sound =
    let e : length (first_mentions [] (flat_map mentioned_by machine.rows)) ≡ length
    machine.states = ap length sound.in_order
    ∙ length-range_with_len 0 (length machine.states) in
    let few = mentions_few [] (flat_map mentioned_by machine.rows) in
    let rows = mentioned_few machine.rows in
    let most = sound.few_rows in
    omega arith

-- tables

filter_small : (test : MachineRow → Bool) (rows : List MachineRow)
    → length (filter test rows) ≤ length rows
filter_small test [] = omega arith
filter_small test (row ∷ rows) = cases (test row) (filter_small test rows)
  where
    cases : (b : Bool) → length (filter test rows) ≤ length rows
        → length (cond b (row ∷ filter test rows) (filter test rows)) ≤ suc (length rows)
    cases true rest = omega arith
    cases false rest = omega arith

open_rows : (rows : List (List Tri)) → some_row_or_phase_one rows true ≡ true
open_rows [] = refl
open_rows (row ∷ rows) = refl

narrow_bounded : (table : Table) → length table.rows < 2 ^ 33 → length table.inputs < 2 ^ 30
    → IsBounded (narrowed (with_rows_once table))
unfolding narrowed
narrow_bounded table rows inputs = record {
  rows = let long = length-map (rows_once table.rows)
      (chosen (used_places table.inputs (rows_once table.rows))) in let small =
      once_small table.rows in omega arith;
  inputs = let small = chosen_small (used_places table.inputs (rows_once table.rows))
      table.inputs in omega arith;
}

module _ (style : Style) (machine : Machine) (sound : IsSoundMachine machine)
    (few : leaf_count style machine ≤ MAX_INPUTS) where
  abbrev states : List (List ℕ)
  states = state_names style machine

  abbrev nexts : List (List ℕ)
  nexts = next_names style machine

  table_bounded : (part : Part) (place : ℕ) (name : List ℕ)
      → IsBounded (table_of style machine part place name)
  table_bounded part place name =
      let raw : Table = raw_table style machine part place name in
      let is : table_of style machine part place name ≡ narrowed (with_rows_once raw) =
      table_is style machine part place name ∙ tidied_is raw (leaves_differ style machine sound few)
      (open_rows raw.rows) in
      let kept : List MachineRow = filter (specifies_one style part place) machine.rows in
      let rows = length-map kept (coded_row style (width_of style machine)) in
      let less = filter_small (specifies_one style part place) machine.rows in
      let most = sound.few_rows in
      let inputs = length-append machine.inputs states in
      let long = states_long style machine sound few in
      subst IsBounded (sym is) (narrow_bounded raw (omega arith) (omega arith))

  latch_count : length (encoded style machine).latches ≡ length nexts
  unfolding encoded
  latch_count =
      sym (length-map (latches_from style machine.reset 0 nexts states)
      (λ (latch : Latch). latch.input))
      ∙ ap length (latches_take style machine.reset 0 nexts states
      (same_long style machine sound few))

  table_count : length (encoded style machine).tables ≡ length nexts + length machine.outputs
  unfolding encoded
  table_count =
      let all = length-append (tables_from style machine Next 0 nexts)
      (tables_from style machine Output 0 machine.outputs) in
      let some = length-tables style machine Next 0 nexts in
      let others = length-tables style machine Output 0 machine.outputs in
      omega arith

  pub encoded_bounds : HasBounds (encoded style machine)
  encoded_bounds = record {
    nodes =
        let latches = latch_count in
        let tables = table_count in
        let long = nexts_long style machine sound few in
        let outputs = sound.few_outputs in omega arith;
    tables = each_one style machine sound few IsBounded table_bounded;
  }
