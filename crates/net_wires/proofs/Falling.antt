-- The weight falls at each step of sweep.
use Rattle.std.proofs.Common.{◌≡◌, ℕ, ◌<◌, Bool, true, false, not, ◌&&◌, if◌then◌else◌, Option, Some, None, is_some, List, [], map, find, refl, sym, ap, ◌∙◌, subst}
use Rattle.std.specs.Option.{option_map_or, option_or}
use Rattle.std.proofs.lemmas.Bool.{false≢true, and_parts, not-true, not-false}
use Rattle.std.proofs.lemmas.Option.{none-some, same_Some}
use Rattle.circuit_model.specs.Names.{has, all_different}
use Rattle.circuit_model.specs.Values.{driver}
use Rattle.circuit_model.specs.Soundness.{IsShaped, IsSound}
use Rattle.circuit_model.specs.declared.circuit.Table.{Table}
use Rattle.circuit_model.specs.declared.circuit.Latch.{Latch}
use Rattle.circuit_model.specs.declared.circuit.Circuit.{Circuit}
use Rattle.circuit_laws.specs.Edits.{with_tables, with_replaced, with_fixed, constant_table}
use Rattle.circuit_laws.proofs.Names.{has_head}
use Rattle.circuit_tables.specs.Tidy.{is_tidy, tidied}
use Rattle.circuit_tables.proofs.Tidied.{tidied_smaller, tidied_output, tidied_reads}
use Rattle.net_wires.specs.Points.{constant_bit, written_bit}
use Rattle.net_wires.specs.Needed.{all_needed, only_needed}
use Rattle.net_wires.specs.Rules.{tidy_table, unwritten_bit, with_constant, write_constant, tables_read, at_bit, with_constant_propagated, propagate_constant, rewired, only_input, is_inverter, with_single_input_collapsed, collapse_single_input, fixed_bit, with_latch_fixed, fix_constant_latch, remove_dangling, sweep_step}
use Rattle.net_wires.proofs.Points.{only_is}
use Rattle.circuit_laws.proofs.Found.{find_test, find_all, found_driver}
use Rattle.circuit_laws.proofs.Mapped.{outputs_different}
use Rattle.net_wires.proofs.Steps.{applied, some_is, unwritten_is, found_latch}
use Rattle.net_wires.proofs.Swept.{all_tidy}
use Rattle.net_wires.proofs.Sizes.{constant_smaller}
use Rattle.net_wires.proofs.Weight.{weight, replaced_falls, propagate_falls, collapse_falls, latch_falls, dangling_falls}

abbrev Falls : Circuit → Circuit → Type 0
Falls old new = weight new < weight old

tidy_falls : (circuit new : Circuit) → IsSound circuit → tidy_table circuit ≡ Some new → Falls circuit new
unfolding tidy_table
tidy_falls circuit new sound h =
    let (table, found, is) = applied (λ table. with_replaced circuit (tidied table)) (find (λ table. not (is_tidy table)) circuit.tables) new h in
    let drives : driver circuit.tables table.output ≡ Some table = found_driver (λ table. not (is_tidy table)) circuit.tables table (outputs_different circuit sound) found in
    subst (Falls circuit) is
    (replaced_falls circuit table (tidied table) (ap (driver circuit.tables) (tidied_output table) ∙ drives) (λ name reads. tidied_reads table name reads)
    (tidied_smaller table (find_all (λ table. not (is_tidy table)) IsShaped circuit.tables table sound.shaped found)
    (find_all (λ table. not (is_tidy table)) (λ (t : Table). all_different t.inputs ≡ true) circuit.tables table sound.table_inputs_once found)
    (not-true (is_tidy table) (find_test (λ table. not (is_tidy table)) circuit.tables table found))))

unwritten_none : (table : Table) (bit : Bool) → unwritten_bit table ≡ Some bit → written_bit table ≡ None
unfolding unwritten_bit
unwritten_none table bit h = cases (written_bit table) h
  where
    cases : (o : Option Bool) → (if is_some o then None else constant_bit table) ≡ Some bit → o ≡ None
    cases None e = refl
    cases (Some b) e = absurd (none-some bit e)

constant_falls : (circuit new : Circuit) → IsSound circuit → tidy_table circuit ≡ None → write_constant circuit ≡ Some new → Falls circuit new
unfolding write_constant
constant_falls circuit new sound tidy h =
    let (table, found, is) = applied (with_constant circuit) (find (λ table. is_some (unwritten_bit table)) circuit.tables) new h in
    let (bit, at) = some_is (unwritten_bit table) (find_test (λ table. is_some (unwritten_bit table)) circuit.tables table found) in
    let made : with_replaced circuit (constant_table table.output bit) ≡ with_constant circuit table =
    ap (λ (o : Option Bool). option_map_or (λ (b : Bool). with_replaced circuit (constant_table table.output b)) o circuit) (sym at) in
    subst (Falls circuit) (made ∙ is)
    (replaced_falls circuit table (constant_table table.output bit) (found_driver (λ table. is_some (unwritten_bit table)) circuit.tables table (outputs_different circuit sound) found)
    (λ name reads. absurd (false≢true reads))
    (constant_smaller table bit (find_all (λ table. is_some (unwritten_bit table)) IsShaped circuit.tables table sound.shaped found)
    (not-false (is_tidy table) (find_all (λ table. is_some (unwritten_bit table)) (λ (t : Table). not (is_tidy t) ≡ false) circuit.tables table (all_tidy circuit tidy) found))
    (unwritten_none table bit at) (unwritten_is table bit at)))

propagate_step : (circuit new : Circuit) → IsSound circuit → propagate_constant circuit ≡ Some new → Falls circuit new
unfolding propagate_constant
propagate_step circuit new sound h =
    let (table, found, is) = applied (with_constant_propagated circuit) (find (λ (t : Table). is_some (written_bit t) && tables_read circuit t.output) circuit.tables) new h in
    let test = and_parts (is_some (written_bit table)) (tables_read circuit table.output) (find_test (λ (t : Table). is_some (written_bit t) && tables_read circuit t.output) circuit.tables table found) in
    let (bit, at) = some_is (written_bit table) test.0 in
    let made : with_tables circuit (map (at_bit table.output bit) circuit.tables) ≡ with_constant_propagated circuit table =
    ap (λ (o : Option Bool). option_map_or (λ (b : Bool). with_tables circuit (map (at_bit table.output b) circuit.tables)) o circuit) (sym at) in
    subst (Falls circuit) (made ∙ is) (propagate_falls circuit table.output bit sound test.1)

collapse_step : (circuit new : Circuit) → IsSound circuit → collapse_single_input circuit ≡ Some new → Falls circuit new
unfolding collapse_single_input
collapse_step circuit new sound h =
    let (table, found, is) = applied (with_single_input_collapsed circuit) (find (λ (t : Table). is_some (only_input t.inputs) && tables_read circuit t.output) circuit.tables) new h in
    let test = and_parts (is_some (only_input table.inputs)) (tables_read circuit table.output) (find_test (λ (t : Table). is_some (only_input t.inputs) && tables_read circuit t.output) circuit.tables table found) in
    let (input, at) = some_is (only_input table.inputs) test.0 in
    let within : has table.inputs input ≡ true = subst (λ (names : List (List ℕ)). has names input ≡ true) (sym (only_is table.inputs input at)) (has_head input []) in
    let drives : driver circuit.tables table.output ≡ Some table = found_driver (λ (t : Table). is_some (only_input t.inputs) && tables_read circuit t.output) circuit.tables table (outputs_different circuit sound) found in
    let made : with_tables circuit (map (rewired table.output input (is_inverter table)) circuit.tables) ≡ with_single_input_collapsed circuit table =
    ap (λ (o : Option (List ℕ)). option_map_or (λ (name : List ℕ). with_tables circuit (map (rewired table.output name (is_inverter table)) circuit.tables)) o circuit) (sym at) in
    subst (Falls circuit) (made ∙ is) (collapse_falls circuit table input (is_inverter table) sound drives within test.1)

latch_step : (circuit new : Circuit) → IsSound circuit → fix_constant_latch circuit ≡ Some new → Falls circuit new
unfolding fix_constant_latch
latch_step circuit new sound h =
    let (latch, found, is) = applied (with_latch_fixed circuit) (find (λ (l : Latch). is_some (fixed_bit circuit l)) circuit.latches) new h in
    let (bit, at) = some_is (fixed_bit circuit latch) (find_test (λ (l : Latch). is_some (fixed_bit circuit l)) circuit.latches latch found) in
    let made : with_fixed circuit latch.output bit ≡ with_latch_fixed circuit latch =
    ap (λ (o : Option Bool). option_map_or (λ (b : Bool). with_fixed circuit latch.output b) o circuit) (sym at) in
    subst (Falls circuit) (made ∙ is) (latch_falls circuit latch.output bit sound (found_latch (λ (l : Latch). is_some (fixed_bit circuit l)) circuit.latches latch found))

dangling_step : (circuit new : Circuit) → remove_dangling circuit ≡ Some new → Falls circuit new
unfolding remove_dangling
dangling_step circuit new h = cases (all_needed circuit) refl h
  where
    cases : (t : Bool) → all_needed circuit ≡ t → (if t then None else Some (only_needed circuit)) ≡ Some new → Falls circuit new
    cases true d e = absurd (none-some new e)
    cases false d e = subst (Falls circuit) (same_Some (only_needed circuit) new e) (dangling_falls circuit d)

-- the weight of a sound circuit falls at each step
pub step_falls : (circuit new : Circuit) → IsSound circuit → sweep_step circuit ≡ Some new → weight new < weight circuit
unfolding sweep_step
step_falls circuit new sound h =
    first (tidy_table circuit) refl (write_constant circuit) refl (propagate_constant circuit) refl (collapse_single_input circuit) refl (fix_constant_latch circuit) refl h
  where
    first : (a : Option Circuit) → tidy_table circuit ≡ a → (b : Option Circuit) → write_constant circuit ≡ b → (c : Option Circuit) → propagate_constant circuit ≡ c
        → (d : Option Circuit) → collapse_single_input circuit ≡ d → (e : Option Circuit) → fix_constant_latch circuit ≡ e
        → option_or a (option_or b (option_or c (option_or d (option_or e (remove_dangling circuit))))) ≡ Some new → Falls circuit new
    first (Some x) p b q c r d s e t k = tidy_falls circuit new sound (p ∙ k)
    first None p (Some x) q c r d s e t k = constant_falls circuit new sound p (q ∙ k)
    first None p None q (Some x) r d s e t k = propagate_step circuit new sound (r ∙ k)
    first None p None q None r (Some x) s e t k = collapse_step circuit new sound (s ∙ k)
    first None p None q None r None s (Some x) t k = latch_step circuit new sound (t ∙ k)
    first None p None q None r None s None t k = dangling_step circuit new k
