-- Worked circuits.
use Rattle.std.specs.Prelude.{◌≡◌, ℕ, zero, suc, true, None, List, [], ◌∷◌}
use Rattle.std.specs.Option.{option_map_or}
use Rattle.std.proofs.Common.{refl}
use Rattle.circuit_model.specs.declared.circuit.Tri.{Tri}
use Rattle.circuit_model.specs.declared.circuit.Tri.TheVariants.{Zero, One}
use Rattle.circuit_model.specs.declared.circuit.Table.{Table}
use Rattle.circuit_model.specs.declared.circuit.Latch.{Latch}
use Rattle.circuit_model.specs.declared.circuit.Circuit.{Circuit}
use Rattle.net_wires.specs.Rules.{sweep_step, tidy_table, write_constant, propagate_constant, collapse_single_input, fix_constant_latch, remove_dangling, unwritten_bit, row_at_bit, at_bit, row_turned, rewired, fixed_bit}
use Rattle.circuit_tables.specs.Folding.{each_once, under, asked_of, folded_rows, with_rows, folded}
use Rattle.net_wires.specs.Points.{every_point, constant_bit, written_bit}
use Rattle.net_wires.specs.Needed.{dont_care_reads, needed_within, is_needed, only_needed}
use Rattle.circuit_model.specs.Values.{table_value, driver}
use Rattle.circuit_model.specs.Names.{all_different}
use Rattle.sis_base.specs.Rows.{value_by_phase, some_matches, matches}
use Rattle.circuit_laws.specs.Edits.{with_replaced, replaced, with_fixed, with_added, with_kept, tables_kept, latches_kept}
use Rattle.circuit_tables.specs.Tidy.{tidied, with_phase_one, is_tidy, same_row, rows_differ, used_places, rows_once, chosen, narrowed}

a : List ℕ
a = 97 ∷ []

b : List ℕ
b = 98 ∷ []

c : List ℕ
c = 99 ∷ []

x : List ℕ
x = 120 ∷ []

n : List ℕ
n = 110 ∷ []

y : List ℕ
y = 121 ∷ []

k : List ℕ
k = 107 ∷ []

q : List ℕ
q = 113 ∷ []

table : List (List ℕ) → List ℕ → List (List Tri) → Table
table inputs output rows = record { inputs = inputs; output = output; rows = rows; phase = true }

circuit : List (List ℕ) → List (List ℕ) → List Latch → List Table → Circuit
circuit inputs outputs latches tables = record {
  name = [];
  inputs = inputs;
  outputs = outputs;
  clocks = [];
  timing = None;
  latches = latches;
  tables = tables;
  dont_care = [];
}

steps : ℕ → Circuit → Circuit
steps zero from = from
steps (suc more) from = option_map_or (λ (next : Circuit). steps more next) (sweep_step from) from

latch : ℕ → Latch
latch init = record { input = k; output = q; init = init }

inverter : steps 6 (circuit (a ∷ b ∷ c ∷ []) (y ∷ []) []
    (table (a ∷ b ∷ []) x ((One ∷ One ∷ []) ∷ []) ∷ table (x ∷ []) n ((Zero ∷ []) ∷ []) ∷ table (n ∷ c ∷ []) y ((One ∷ One ∷ []) ∷ []) ∷ []))
    ≡ circuit (a ∷ b ∷ c ∷ []) (y ∷ []) []
    (table (a ∷ b ∷ []) x ((One ∷ One ∷ []) ∷ []) ∷ table (x ∷ c ∷ []) y ((Zero ∷ One ∷ []) ∷ []) ∷ [])
unfolding sweep_step tidy_table write_constant propagate_constant collapse_single_input fix_constant_latch remove_dangling unwritten_bit row_at_bit at_bit row_turned rewired fixed_bit tidied with_phase_one is_tidy same_row rows_differ used_places rows_once chosen narrowed each_once under asked_of folded_rows with_rows folded every_point constant_bit written_bit dont_care_reads needed_within is_needed only_needed circuit table steps latch a b c x n y k q table_value driver value_by_phase some_matches matches all_different with_replaced replaced with_fixed with_added with_kept tables_kept latches_kept
inverter = refl

fixed : steps 6 (circuit [] (q ∷ []) (latch 2 ∷ []) (table [] k ([] ∷ []) ∷ [])) ≡ circuit [] (q ∷ []) [] (table [] q ([] ∷ []) ∷ [])
unfolding sweep_step tidy_table write_constant propagate_constant collapse_single_input fix_constant_latch remove_dangling unwritten_bit row_at_bit at_bit row_turned rewired fixed_bit tidied with_phase_one is_tidy same_row rows_differ used_places rows_once chosen narrowed each_once under asked_of folded_rows with_rows folded every_point constant_bit written_bit dont_care_reads needed_within is_needed only_needed circuit table steps latch a b c x n y k q table_value driver value_by_phase some_matches matches all_different with_replaced replaced with_fixed with_added with_kept tables_kept latches_kept
fixed = refl

unknown : steps 6 (circuit [] (q ∷ []) (latch 3 ∷ []) (table [] k ([] ∷ []) ∷ [])) ≡ circuit [] (q ∷ []) (latch 3 ∷ []) (table [] k ([] ∷ []) ∷ [])
unfolding sweep_step tidy_table write_constant propagate_constant collapse_single_input fix_constant_latch remove_dangling unwritten_bit row_at_bit at_bit row_turned rewired fixed_bit tidied with_phase_one is_tidy same_row rows_differ used_places rows_once chosen narrowed each_once under asked_of folded_rows with_rows folded every_point constant_bit written_bit dont_care_reads needed_within is_needed only_needed circuit table steps latch a b c x n y k q table_value driver value_by_phase some_matches matches all_different with_replaced replaced with_fixed with_added with_kept tables_kept latches_kept
unknown = refl
