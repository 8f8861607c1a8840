-- A table without fanout stays one at each step of sweep but the last rule's, and may as well be
-- emptied beside the step.
use Rattle.std.proofs.Common.{◌≡◌, ℕ, Bool, true, false, not, ◌&&◌, if◌then◌else◌, Option, Some, None, is_some, List, [], ◌∷◌, ◌++◌, map, find, bytes_eq, refl, sym, ap, ◌∙◌, subst, inl, inr, ◌⊎◌}
use Rattle.std.specs.Option.{option_map_or, option_or}
use Rattle.std.proofs.lemmas.Bool.{false≢true, and_parts, and_from, or_parts, or_from, false_from_ne_true}
use Rattle.circuit_model.specs.Names.{has}
use Rattle.circuit_model.specs.Values.{driver}
use Rattle.circuit_model.specs.Soundness.{outputs_of, latch_inputs, table_inputs, IsSound}
use Rattle.circuit_model.specs.declared.circuit.Table.{Table}
use Rattle.circuit_model.specs.declared.circuit.Latch.{Latch}
use Rattle.circuit_model.specs.declared.circuit.Circuit.{Circuit}
use Rattle.circuit_laws.specs.Edits.{tables_kept, latches_kept, is_other, with_tables, with_replaced, with_added, with_kept, with_fixed, constant_table, is_read, is_root}
use Rattle.circuit_laws.proofs.Names.{has_head, has_front}
use Rattle.circuit_laws.proofs.Drivers.{driver_all, driver_name, driver_reads, output_driver, outputs-replaced}
use Rattle.circuit_laws.proofs.Fixed.{other_passes}
use Rattle.circuit_laws.proofs.Kept.{has_tables_kept}
use Rattle.circuit_laws.proofs.Sound.{outputs-added}
use Rattle.circuit_tables.specs.Tidy.{is_tidy, tidied}
use Rattle.circuit_tables.proofs.Tidied.{tidied_output, tidied_reads}
use Rattle.net_wires.specs.Points.{written_bit}
use Rattle.net_wires.specs.Needed.{is_needed}
use Rattle.net_wires.specs.Rules.{tidy_table, unwritten_bit, with_constant, write_constant, tables_read, at_bit, with_constant_propagated, propagate_constant, rewired, only_input, is_inverter, with_single_input_collapsed, collapse_single_input, fixed_bit, with_latch_fixed, fix_constant_latch, remove_dangling, sweep_step}
use Rattle.net_wires.specs.Sweeping.{IsSweptTable}
use Rattle.net_wires.specs.Keeping.{KeepsFrame}
use Rattle.net_wires.specs.Idle.{IsIdle}
use Rattle.net_wires.proofs.Points.{only_is}
use Rattle.net_wires.proofs.Turned.{at_output, at_reads, rewired_output, rewired_reads}
use Rattle.circuit_laws.proofs.Found.{find_test, found_driver}
use Rattle.circuit_laws.proofs.Mapped.{outputs_different, outputs-mapped}
use Rattle.net_wires.proofs.Weight.{replaced_reads, mapped_reads, constant_reads, kept_reads}
use Rattle.net_wires.proofs.Steps.{applied, some_is, found_latch}
use Rattle.net_wires.proofs.Swept.{swept}
use Rattle.net_wires.proofs.Framed.{step_framed}
use Rattle.net_wires.proofs.Beside.{beside, Goes, idle_unread, idle_unasked, tidy_goes, tidy_none, constant_goes, constant_none, propagate_goes, propagate_none, collapse_goes, collapse_none}
use Rattle.net_wires.proofs.Idling.{latch_apart, latch_goes, latch_none, idle_goes, dangling_same}

-- some table drives the signal, and no table and no latch reads it
pub record IsUntaken (circuit : Circuit) (name : List ℕ) : Type 0 where
  pub driven : has (outputs_of circuit.tables) name ≡ true
  pub unread : has (table_inputs circuit.tables) name ≡ false
  pub unasked : has (latch_inputs circuit) name ≡ false

untaken_idle : (old new : Circuit) (name : List ℕ) → IsIdle old name → KeepsFrame old new → IsUntaken new name → IsIdle new name
unfolding is_read is_root
untaken_idle old new name idle frame untaken =
    let reads = or_parts (has (table_inputs old.tables) name) (not (has (outputs_of old.dont_care) name) && has (table_inputs old.dont_care) name) idle.unread in
    let roots = or_parts (has old.outputs name) (has (latch_inputs old) name) idle.unasked in record {
      driven = untaken.driven;
      unread = or_from (has (table_inputs new.tables) name) (not (has (outputs_of new.dont_care) name) && has (table_inputs new.dont_care) name) untaken.unread
          (ap (λ (part : List Table). not (has (outputs_of part) name) && has (table_inputs part) name) frame.dont_care ∙ reads.1);
      unasked = or_from (has new.outputs name) (has (latch_inputs new) name) (ap (λ (names : List (List ℕ)). has names name) frame.outputs ∙ roots.0) untaken.unasked;
    }

replaced_untaken : (circuit : Circuit) (name : List ℕ) → IsIdle circuit name → (old new : Table) → driver circuit.tables new.output ≡ Some old
    → ((x : List ℕ) → has new.inputs x ≡ true → has old.inputs x ≡ true) → IsUntaken (with_replaced circuit new) name
unfolding with_replaced
replaced_untaken circuit name idle old new at within = record {
  driven = ap (λ (names : List (List ℕ)). has names name) (outputs-replaced circuit.tables new) ∙ idle.driven;
  unread = false_from_ne_true (has (table_inputs (with_replaced circuit new).tables) name) (λ reads.
      false≢true (sym (idle_unread circuit name idle) ∙ replaced_reads circuit.tables old new at within name reads));
  unasked = idle_unasked circuit name idle;
}

tidy_untaken : (circuit new : Circuit) (name : List ℕ) → IsSound circuit → IsIdle circuit name → tidy_table circuit ≡ Some new → IsUntaken new name
unfolding tidy_table
tidy_untaken circuit new name sound idle h =
    let (table, found, is) = applied (λ table. with_replaced circuit (tidied table)) (find (λ table. not (is_tidy table)) circuit.tables) new h in
    subst (λ (some : Circuit). IsUntaken some name) is
    (replaced_untaken circuit name idle table (tidied table)
    (ap (driver circuit.tables) (tidied_output table) ∙ found_driver (λ table. not (is_tidy table)) circuit.tables table (outputs_different circuit sound) found) (tidied_reads table))

constant_untaken : (circuit new : Circuit) (name : List ℕ) → IsSound circuit → IsIdle circuit name → write_constant circuit ≡ Some new → IsUntaken new name
unfolding write_constant
constant_untaken circuit new name sound idle h =
    let (table, found, is) = applied (with_constant circuit) (find (λ table. is_some (unwritten_bit table)) circuit.tables) new h in
    let (bit, at) = some_is (unwritten_bit table) (find_test (λ table. is_some (unwritten_bit table)) circuit.tables table found) in
    let made : with_replaced circuit (constant_table table.output bit) ≡ with_constant circuit table =
    ap (λ (o : Option Bool). option_map_or (λ (b : Bool). with_replaced circuit (constant_table table.output b)) o circuit) (sym at) in
    subst (λ (some : Circuit). IsUntaken some name) (made ∙ is)
    (replaced_untaken circuit name idle table (constant_table table.output bit)
    (found_driver (λ table. is_some (unwritten_bit table)) circuit.tables table (outputs_different circuit sound) found) (λ x reads. absurd (false≢true reads)))

mapped_untaken : (circuit : Circuit) (name : List ℕ) → IsIdle circuit name → (turn : Table → Table) → ((table : Table) → (turn table).output ≡ table.output)
    → ((table : Table) → has (turn table).inputs name ≡ true → (has table.inputs name ≡ true) ⊎ (has (table_inputs circuit.tables) name ≡ true))
    → IsUntaken (with_tables circuit (map turn circuit.tables)) name
mapped_untaken circuit name idle turn keeps reads = record {
  driven = ap (λ (names : List (List ℕ)). has names name) (outputs-mapped turn keeps circuit.tables) ∙ idle.driven;
  unread = false_from_ne_true (has (table_inputs (map turn circuit.tables)) name) (λ read.
      never (mapped_reads turn (has (table_inputs circuit.tables) name ≡ true) name reads circuit.tables read));
  unasked = idle_unasked circuit name idle;
}
  where
    never : (has (table_inputs circuit.tables) name ≡ true) ⊎ (has (table_inputs circuit.tables) name ≡ true) → ⊥
    never (inl read) = false≢true (sym (idle_unread circuit name idle) ∙ read)
    never (inr read) = false≢true (sym (idle_unread circuit name idle) ∙ read)

propagate_untaken : (circuit new : Circuit) (name : List ℕ) → IsIdle circuit name → propagate_constant circuit ≡ Some new → IsUntaken new name
unfolding propagate_constant
propagate_untaken circuit new name idle h =
    let (table, found, is) = applied (with_constant_propagated circuit) (find (λ (t : Table). is_some (written_bit t) && tables_read circuit t.output) circuit.tables) new h in
    let test = and_parts (is_some (written_bit table)) (tables_read circuit table.output) (find_test (λ (t : Table). is_some (written_bit t) && tables_read circuit t.output) circuit.tables table found) in
    let (bit, at) = some_is (written_bit table) test.0 in
    let made : with_tables circuit (map (at_bit table.output bit) circuit.tables) ≡ with_constant_propagated circuit table =
    ap (λ (o : Option Bool). option_map_or (λ (b : Bool). with_tables circuit (map (at_bit table.output b) circuit.tables)) o circuit) (sym at) in
    subst (λ (some : Circuit). IsUntaken some name) (made ∙ is)
    (mapped_untaken circuit name idle (at_bit table.output bit) (at_output table.output bit) (λ t reads. inl (at_reads table.output bit t name reads)))

collapse_untaken : (circuit new : Circuit) (name : List ℕ) → IsSound circuit → IsIdle circuit name → collapse_single_input circuit ≡ Some new → IsUntaken new name
unfolding collapse_single_input
collapse_untaken circuit new name sound idle h =
    let (table, found, is) = applied (with_single_input_collapsed circuit) (find (λ (t : Table). is_some (only_input t.inputs) && tables_read circuit t.output) circuit.tables) new h in
    let test = and_parts (is_some (only_input table.inputs)) (tables_read circuit table.output) (find_test (λ (t : Table). is_some (only_input t.inputs) && tables_read circuit t.output) circuit.tables table found) in
    let (input, at) = some_is (only_input table.inputs) test.0 in
    let within : has table.inputs input ≡ true = subst (λ (names : List (List ℕ)). has names input ≡ true) (sym (only_is table.inputs input at)) (has_head input []) in
    let drives : driver circuit.tables table.output ≡ Some table = found_driver (λ (t : Table). is_some (only_input t.inputs) && tables_read circuit t.output) circuit.tables table (outputs_different circuit sound) found in
    let made : with_tables circuit (map (rewired table.output input (is_inverter table)) circuit.tables) ≡ with_single_input_collapsed circuit table =
    ap (λ (o : Option (List ℕ)). option_map_or (λ (x : List ℕ). with_tables circuit (map (rewired table.output x (is_inverter table)) circuit.tables)) o circuit) (sym at) in
    subst (λ (some : Circuit). IsUntaken some name) (made ∙ is)
    (mapped_untaken circuit name idle (rewired table.output input (is_inverter table)) (rewired_output table.output input (is_inverter table)) (λ t reads.
    elim (rewired_reads table.output input (is_inverter table) t name reads) as (λ _. (has t.inputs name ≡ true) ⊎ (has (table_inputs circuit.tables) name ≡ true)) [
      | inl old ↦ inl old
      | inr to ↦ inr (subst (λ (x : List ℕ). has (table_inputs circuit.tables) x ≡ true) (sym to.0) (driver_reads circuit.tables table.output table input drives within))
    ]))

inputs_kept : (test : List ℕ → Bool) (name : List ℕ) (latches : List Latch) → has (map (λ (latch : Latch). latch.input) latches) name ≡ false
    → has (map (λ (latch : Latch). latch.input) (latches_kept test latches)) name ≡ false
unfolding latches_kept
inputs_kept test name [] none = refl
inputs_kept test name (latch ∷ latches) none =
    let parts = or_parts (bytes_eq name latch.input) (has (map (λ (l : Latch). l.input) latches) name) none in
    cases (test latch.output) parts.0 (inputs_kept test name latches parts.1)
  where
    cases : (t : Bool) → bytes_eq name latch.input ≡ false → has (map (λ (l : Latch). l.input) (latches_kept test latches)) name ≡ false
        → has (map (λ (l : Latch). l.input) (if t then latch ∷ latches_kept test latches else latches_kept test latches)) name ≡ false
    cases true apart rest = or_from (bytes_eq name latch.input) (has (map (λ (l : Latch). l.input) (latches_kept test latches)) name) apart rest
    cases false apart rest = rest

fixed_untaken : (circuit : Circuit) (name : List ℕ) → IsIdle circuit name → (other : List ℕ) (bit : Bool) → bytes_eq name other ≡ false → IsUntaken (with_fixed circuit other bit) name
unfolding with_fixed with_added with_kept
fixed_untaken circuit name idle other bit apart = record {
  driven = ap (λ (names : List (List ℕ)). has names name) (outputs-added (tables_kept (is_other other) circuit.tables) (constant_table other bit))
      ∙ has_front (outputs_of (tables_kept (is_other other) circuit.tables)) (other ∷ []) name
      (has_tables_kept (is_other other) circuit.tables name ∙ and_from (is_other other name) (has (outputs_of circuit.tables) name) (other_passes other name apart) idle.driven);
  unread = false_from_ne_true (has (table_inputs (tables_kept (is_other other) circuit.tables ++ constant_table other bit ∷ [])) name) (λ read.
      false≢true (sym (idle_unread circuit name idle)
      ∙ kept_reads (is_other other) circuit.tables name (constant_reads (tables_kept (is_other other) circuit.tables) other bit name read)));
  unasked = inputs_kept (is_other other) name circuit.latches (idle_unasked circuit name idle);
}

latch_untaken : (circuit new : Circuit) (name : List ℕ) → IsSound circuit → IsIdle circuit name → fix_constant_latch circuit ≡ Some new → IsUntaken new name
unfolding fix_constant_latch
latch_untaken circuit new name sound idle h =
    let (latch, found, is) = applied (with_latch_fixed circuit) (find (λ (l : Latch). is_some (fixed_bit circuit l)) circuit.latches) new h in
    let (bit, at) = some_is (fixed_bit circuit latch) (find_test (λ (l : Latch). is_some (fixed_bit circuit l)) circuit.latches latch found) in
    let made : with_fixed circuit latch.output bit ≡ with_latch_fixed circuit latch =
    ap (λ (o : Option Bool). option_map_or (λ (b : Bool). with_fixed circuit latch.output b) o circuit) (sym at) in
    subst (λ (some : Circuit). IsUntaken some name) (made ∙ is)
    (fixed_untaken circuit name idle latch.output bit
    (latch_apart circuit name latch.output sound idle.driven (found_latch (λ (l : Latch). is_some (fixed_bit circuit l)) circuit.latches latch found)))

-- a step, and what it is beside the emptied table
abbrev pub Follows : List ℕ → Circuit → Circuit → Type 0
Follows name circuit new = (IsIdle new name × Goes sweep_step name circuit new) ⊎ (sweep_step (beside circuit name) ≡ Some new)

abbrev Rule : Type 0
Rule = Circuit → Option Circuit

abbrev either_rule : Rule → Rule → Rule
either_rule first others circuit = option_or (first circuit) (others circuit)

goes_first : (rule others : Rule) (name : List ℕ) (circuit new : Circuit) → Goes rule name circuit new → Goes (either_rule rule others) name circuit new
goes_first rule others name circuit new (inl same) = inl same
goes_first rule others name circuit new (inr takes) = inr (ap (λ (o : Option Circuit). option_or o (others (beside circuit name))) takes)

goes_later : (rule others : Rule) (name : List ℕ) (circuit new : Circuit) → rule (beside circuit name) ≡ None → Goes others name circuit new → Goes (either_rule rule others) name circuit new
goes_later rule others name circuit new none (inl same) = inl same
goes_later rule others name circuit new none (inr takes) = inr (ap (λ (o : Option Circuit). option_or o (others (beside circuit name))) none ∙ takes)

abbrev from_latch : Rule
from_latch = either_rule fix_constant_latch remove_dangling

abbrev from_collapse : Rule
from_collapse = either_rule collapse_single_input from_latch

abbrev from_propagate : Rule
from_propagate = either_rule propagate_constant from_collapse

abbrev from_constant : Rule
from_constant = either_rule write_constant from_propagate

pub step_follows : (circuit new : Circuit) (name : List ℕ) → IsSound circuit → IsIdle circuit name → sweep_step circuit ≡ Some new → Follows name circuit new
unfolding sweep_step
step_follows circuit new name sound idle h =
    first (tidy_table circuit) refl (write_constant circuit) refl (propagate_constant circuit) refl (collapse_single_input circuit) refl (fix_constant_latch circuit) refl h
  where
    stays : IsUntaken new name → IsIdle new name
    stays untaken = untaken_idle circuit new name idle (step_framed circuit new sound h) untaken

    first : (a : Option Circuit) → tidy_table circuit ≡ a → (b : Option Circuit) → write_constant circuit ≡ b → (c : Option Circuit) → propagate_constant circuit ≡ c
        → (d : Option Circuit) → collapse_single_input circuit ≡ d → (e : Option Circuit) → fix_constant_latch circuit ≡ e
        → option_or a (option_or b (option_or c (option_or d (option_or e (remove_dangling circuit))))) ≡ Some new → Follows name circuit new
    first (Some x) p b q c r d s e t k =
        inl (stays (tidy_untaken circuit new name sound idle (p ∙ k)), goes_first tidy_table from_constant name circuit new (tidy_goes name circuit new (p ∙ k)))
    first None p (Some x) q c r d s e t k =
        inl (
          stays (constant_untaken circuit new name sound idle (q ∙ k)),
          goes_later tidy_table from_constant name circuit new (tidy_none name circuit p)
              (goes_first write_constant from_propagate name circuit new (constant_goes name circuit new (q ∙ k))),
        )
    first None p None q (Some x) r d s e t k =
        inl (
          stays (propagate_untaken circuit new name idle (r ∙ k)),
          goes_later tidy_table from_constant name circuit new (tidy_none name circuit p)
              (goes_later write_constant from_propagate name circuit new (constant_none name circuit q)
              (goes_first propagate_constant from_collapse name circuit new (propagate_goes name circuit new idle (r ∙ k)))),
        )
    first None p None q None r (Some x) s e t k =
        inl (
          stays (collapse_untaken circuit new name sound idle (s ∙ k)),
          goes_later tidy_table from_constant name circuit new (tidy_none name circuit p)
              (goes_later write_constant from_propagate name circuit new (constant_none name circuit q)
              (goes_later propagate_constant from_collapse name circuit new (propagate_none name circuit idle r)
              (goes_first collapse_single_input from_latch name circuit new (collapse_goes name circuit new idle (s ∙ k))))),
        )
    first None p None q None r None s (Some x) t k =
        inl (
          stays (latch_untaken circuit new name sound idle (t ∙ k)),
          goes_later tidy_table from_constant name circuit new (tidy_none name circuit p)
              (goes_later write_constant from_propagate name circuit new (constant_none name circuit q)
              (goes_later propagate_constant from_collapse name circuit new (propagate_none name circuit idle r)
              (goes_later collapse_single_input from_latch name circuit new (collapse_none name circuit idle s)
              (goes_first fix_constant_latch remove_dangling name circuit new (inr (latch_goes name circuit new sound idle (t ∙ k))))))),
        )
    first None p None q None r None s None t k =
        inr (ap (λ (o : Option Circuit). option_or o (from_constant (beside circuit name))) (tidy_none name circuit p)
        ∙ ap (λ (o : Option Circuit). option_or o (from_propagate (beside circuit name))) (constant_none name circuit q)
        ∙ ap (λ (o : Option Circuit). option_or o (from_collapse (beside circuit name))) (propagate_none name circuit idle r)
        ∙ ap (λ (o : Option Circuit). option_or o (from_latch (beside circuit name))) (collapse_none name circuit idle s)
        ∙ ap (λ (o : Option Circuit). option_or o (remove_dangling (beside circuit name))) (latch_none name circuit idle t)
        ∙ dangling_same name circuit idle ∙ k)

-- while a table is idle, some rule applies
pub idle_unfinished : (circuit : Circuit) (name : List ℕ) → IsIdle circuit name → sweep_step circuit ≡ None → ⊥
idle_unfinished circuit name idle h =
    let (table, at) = output_driver circuit.tables name idle.driven in
    let fits : IsSweptTable circuit table = driver_all (IsSweptTable circuit) circuit.tables (swept circuit h).tables name table at in
    false≢true (sym (idle_goes circuit name idle) ∙ subst (λ (signal : List ℕ). is_needed circuit signal ≡ true) (driver_name circuit.tables name table at) fits.needed)
