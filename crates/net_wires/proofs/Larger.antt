-- No step of sweep makes a circuit larger: not its tables and latches together, nor the largest of its tables.
use Rattle.std.proofs.Common.{◌≡◌, ℕ, ◌+◌, ◌≤◌, Bool, true, false, not, ◌&&◌, if◌then◌else◌, Option, Some, None, is_some, List, [], ◌∷◌, ◌++◌, length, map, find, bytes_eq, refl, sym, ap, ◌∙◌, subst, arith, length-append}
use Rattle.std.specs.List.{AllByRecursion, filter_map}
use Rattle.std.specs.Option.{option_map_or, option_or}
use Rattle.std.proofs.lemmas.List.{length-map}
use Rattle.std.proofs.lemmas.Option.{none-some, same_Some}
use Rattle.circuit_model.specs.Names.{has, all_different}
use Rattle.circuit_model.specs.Runs.{latch_outputs}
use Rattle.circuit_model.specs.declared.circuit.Tri.{Tri}
use Rattle.circuit_model.specs.declared.circuit.Table.{Table}
use Rattle.circuit_model.specs.declared.circuit.Latch.{Latch}
use Rattle.circuit_model.specs.declared.circuit.Circuit.{Circuit}
use Rattle.circuit_tables.specs.Folding.{each_once, folded_rows, with_rows, constant_one, folded}
use Rattle.circuit_tables.proofs.Merging.{fewer_rows}
use Rattle.circuit_tables.proofs.Folded.{folded_input_count}
use Rattle.circuit_laws.specs.Edits.{replaced, tables_kept, is_other, with_tables, with_replaced, with_added, with_kept, with_fixed, constant_table}
use Rattle.circuit_laws.proofs.Drivers.{outputs-replaced}
use Rattle.circuit_laws.proofs.Sound.{all_append, all_filter}
use Rattle.circuit_laws.specs.Chains.{Leads, Chain}
use Rattle.circuit_tables.specs.Tidy.{used_places, some_row_or_phase_one, is_tidy, rows_once, chosen, narrowed, with_phase_one, with_rows_once, tidied}
use Rattle.net_wires.specs.Points.{written_bit}
use Rattle.net_wires.specs.Needed.{is_needed, all_needed, only_needed}
use Rattle.net_wires.specs.Rules.{tidy_table, unwritten_bit, with_constant, write_constant, tables_read, row_at_bit, at_bit, with_constant_propagated, propagate_constant, renamed, row_turned, rewired, only_input, is_inverter, with_single_input_collapsed, collapse_single_input, fixed_bit, with_latch_fixed, fix_constant_latch, remove_dangling, sweep_step}
use Rattle.net_wires.specs.Keeping.{IsNoLarger}
use Rattle.circuit_tables.proofs.Tidied.{chosen_small, once_small}
use Rattle.net_wires.proofs.Turned.{with_rows_at, at_either, rewires, rewired_either}
use Rattle.circuit_laws.proofs.Found.{find_test, find_all}
use Rattle.circuit_laws.proofs.Mapped.{all_turned}
use Rattle.net_wires.proofs.Steps.{applied, some_is, found_latch}
use Rattle.net_wires.proofs.Sizes.{filtered_few}
use Rattle.net_wires.proofs.Weight.{latches_fewer, tables_few, latches_few}

-- tables

abbrev HasRows : ℕ → Table → Type 0
HasRows most table = length table.rows ≤ most

abbrev HasInputs : ℕ → Table → Type 0
HasInputs most table = length table.inputs ≤ most

folded_no_longer : (most : ℕ) → 1 ≤ most → (table : Table) → HasRows most table → HasRows most (folded table)
unfolding folded with_rows
folded_no_longer most one table few = cases (all_different table.inputs) (by (folded_rows table.inputs table.rows) (fewer_rows table.inputs table.rows))
  where
    by : (rows : List (List Tri)) → length rows ≤ length table.rows → HasRows most (with_rows table rows)
    by [] fewer = none table.phase
      where
        none : (t : Bool) → HasRows most (if t then record table { inputs = each_once table.inputs; rows = [] } else constant_one table.output)
        none true = omega arith
        none false = one
    by (row ∷ rows) fewer = omega arith

    cases : (t : Bool) → HasRows most (with_rows table (folded_rows table.inputs table.rows))
        → HasRows most (if t then table else with_rows table (folded_rows table.inputs table.rows))
    cases true other = few
    cases false other = other

phased_no_longer : (most : ℕ) → 1 ≤ most → (table : Table) → HasRows most table → HasRows most (with_phase_one table)
unfolding with_phase_one
phased_no_longer most one table few = cases (some_row_or_phase_one table.rows table.phase)
  where
    cases : (t : Bool) → HasRows most (if t then table else constant_one table.output)
    cases true = few
    cases false = one

phased_no_wider : (table : Table) → length (with_phase_one table).inputs ≤ length table.inputs
unfolding with_phase_one
phased_no_wider table = cases (some_row_or_phase_one table.rows table.phase)
  where
    cases : (t : Bool) → HasInputs (length table.inputs) (if t then table else constant_one table.output)
    cases true = omega arith
    cases false = omega arith

narrowed_no_longer : (table : Table) → length (narrowed (with_rows_once table)).rows ≤ length table.rows
unfolding narrowed
narrowed_no_longer table =
    let same : length (map (chosen (used_places table.inputs (rows_once table.rows))) (rows_once table.rows)) ≡ length (rows_once table.rows) =
    length-map (rows_once table.rows) (chosen (used_places table.inputs (rows_once table.rows))) in
    let once : length (rows_once table.rows) ≤ length table.rows = once_small table.rows in
    omega arith

narrowed_no_wider : (table : Table) → length (narrowed (with_rows_once table)).inputs ≤ length table.inputs
unfolding narrowed
narrowed_no_wider table = chosen_small (used_places table.inputs (rows_once table.rows)) table.inputs

tidied_no_longer : (most : ℕ) → 1 ≤ most → (table : Table) → HasRows most table → HasRows most (tidied table)
unfolding tidied
tidied_no_longer most one table few =
    let made : length (with_phase_one (folded table)).rows ≤ most = phased_no_longer most one (folded table) (folded_no_longer most one table few) in
    let narrow : length (narrowed (with_rows_once (with_phase_one (folded table)))).rows ≤ length (with_phase_one (folded table)).rows = narrowed_no_longer (with_phase_one (folded table)) in
    omega arith

tidied_no_wider : (table : Table) → length (tidied table).inputs ≤ length table.inputs
unfolding tidied
tidied_no_wider table =
    let fold : length (folded table).inputs ≤ length table.inputs = folded_input_count table in
    let phase : length (with_phase_one (folded table)).inputs ≤ length (folded table).inputs = phased_no_wider (folded table) in
    let narrow : length (narrowed (with_rows_once (with_phase_one (folded table)))).inputs ≤ length (with_phase_one (folded table)).inputs = narrowed_no_wider (with_phase_one (folded table)) in
    omega arith

-- what the turns of sweep leave to a table
record IsLeft (P : Table → Type 0) : Type 0 where
  tidied : (table : Table) → P table → P (tidied table)
  constant : (name : List ℕ) (bit : Bool) → P (constant_table name bit)
  at : (name : List ℕ) (bit : Bool) (table : Table) → P table → P (at_bit name bit table)
  rewired : (from to : List ℕ) (inverts : Bool) (table : Table) → P table → P (rewired from to inverts table)

rows_left : (most : ℕ) → 1 ≤ most → IsLeft (HasRows most)
rows_left most one = record {
  tidied = tidied_no_longer most one;
  constant = constant;
  at = λ name bit table few.
      at_either (HasRows most) name bit table
      (λ reads.
      let fewer : length (filter_map (row_at_bit name bit table.inputs) table.rows) ≤ length table.rows = filtered_few (row_at_bit name bit table.inputs) table.rows in
      tidied_no_longer most one (with_rows_at name bit table) (omega arith)) (λ none. few);
  rewired = λ from to inverts table few.
      rewired_either (HasRows most) from to inverts table
      (λ reads. tidied_no_longer most one (rewires from to inverts table) (turned from to table few inverts)) (λ none. few);
}
  where
    constant : (name : List ℕ) (bit : Bool) → HasRows most (constant_table name bit)
    constant name true = one
    constant name false = omega arith

    turned : (from to : List ℕ) (table : Table) → HasRows most table → (inverts : Bool) → HasRows most (rewires from to inverts table)
    turned from to table few true =
        let same : length (map (row_turned from table.inputs) table.rows) ≡ length table.rows = length-map table.rows (row_turned from table.inputs) in
        omega arith
    turned from to table few false = few

inputs_left : (most : ℕ) → IsLeft (HasInputs most)
inputs_left most = record {
  tidied = tidied_within;
  constant = λ name bit. omega arith;
  at = λ name bit table few. at_either (HasInputs most) name bit table (λ reads. tidied_within (with_rows_at name bit table) few) (λ none. few);
  rewired = λ from to inverts table few.
      rewired_either (HasInputs most) from to inverts table
      (λ reads.
      let same : length (map (renamed from to) table.inputs) ≡ length table.inputs = length-map table.inputs (renamed from to) in
      tidied_within (rewires from to inverts table) (omega arith)) (λ none. few);
}
  where
    tidied_within : (table : Table) → HasInputs most table → HasInputs most (tidied table)
    tidied_within table few = let fewer : length (tidied table).inputs ≤ length table.inputs = tidied_no_wider table in omega arith

-- edits

abbrev nodes_of : Circuit → ℕ
nodes_of circuit = length circuit.tables + length circuit.latches

-- no more tables and latches, and each table has what each had
record IsWithin (P : Table → Type 0) (old new : Circuit) : Type 0 where
  nodes : nodes_of new ≤ nodes_of old
  each : AllByRecursion P old.tables → AllByRecursion P new.tables

replaced_all : (P : Table → Type 0) (new : Table) → P new → (tables : List Table) → AllByRecursion P tables → AllByRecursion P (replaced tables new)
unfolding replaced
replaced_all P new fits [] all = tt
replaced_all P new fits (table ∷ tables) all = cases (bytes_eq new.output table.output) (replaced_all P new fits tables all.1)
  where
    cases : (t : Bool) → AllByRecursion P (replaced tables new) → AllByRecursion P (if t then new ∷ tables else table ∷ replaced tables new)
    cases true rest = (fits, all.1)
    cases false rest = (all.0, rest)

replaced_long : (tables : List Table) (new : Table) → length (replaced tables new) ≡ length tables
replaced_long tables new =
    sym (length-map (replaced tables new) (λ (table : Table). table.output)) ∙ ap length (outputs-replaced tables new) ∙ length-map tables (λ (table : Table). table.output)

replaced_within : (P : Table → Type 0) (circuit : Circuit) (new : Table) → (AllByRecursion P circuit.tables → P new) → IsWithin P circuit (with_replaced circuit new)
unfolding with_replaced
replaced_within P circuit new fits =
    let same : length (replaced circuit.tables new) ≡ length circuit.tables = replaced_long circuit.tables new in record {
      nodes = omega arith;
      each = λ all. replaced_all P new (fits all) circuit.tables all;
    }

mapped_within : (P : Table → Type 0) (circuit : Circuit) (turn : Table → Table) → ((table : Table) → P table → P (turn table)) → IsWithin P circuit (with_tables circuit (map turn circuit.tables))
mapped_within P circuit turn turns =
    let same : length (map turn circuit.tables) ≡ length circuit.tables = length-map circuit.tables turn in record {
      nodes = omega arith;
      each = λ all. all_turned P P turn turns circuit.tables all;
    }

kept_all : (P : Table → Type 0) (test : List ℕ → Bool) (tables : List Table) → AllByRecursion P tables → AllByRecursion P (tables_kept test tables)
unfolding tables_kept
kept_all P test tables all = all_filter P (λ (table : Table). test table.output) tables all

fixed_within : (P : Table → Type 0) (circuit : Circuit) (name : List ℕ) (bit : Bool) → has (latch_outputs circuit) name ≡ true → P (constant_table name bit) → IsWithin P circuit (with_fixed circuit name bit)
unfolding with_fixed with_added with_kept
fixed_within P circuit name bit there fits =
    let added : length (tables_kept (is_other name) circuit.tables ++ constant_table name bit ∷ []) ≡ length (tables_kept (is_other name) circuit.tables) + 1 =
    length-append (tables_kept (is_other name) circuit.tables) (constant_table name bit ∷ []) in
    let tables = tables_few (is_other name) circuit.tables in
    let latches = latches_fewer name circuit.latches there in record {
      nodes = omega arith;
      each = λ all. all_append P (tables_kept (is_other name) circuit.tables) (constant_table name bit ∷ []) (kept_all P (is_other name) circuit.tables all) (fits, tt);
    }

needed_within_old : (P : Table → Type 0) (circuit : Circuit) → IsWithin P circuit (only_needed circuit)
unfolding only_needed with_kept
needed_within_old P circuit =
    let tables = tables_few (is_needed circuit) circuit.tables in
    let latches = latches_few (is_needed circuit) circuit.latches in record {
      nodes = omega arith;
      each = λ all. kept_all P (is_needed circuit) circuit.tables all;
    }

-- rules

tidy_within : (P : Table → Type 0) → IsLeft P → (circuit new : Circuit) → tidy_table circuit ≡ Some new → IsWithin P circuit new
unfolding tidy_table
tidy_within P left circuit new h =
    let (table, found, is) = applied (λ table. with_replaced circuit (tidied table)) (find (λ table. not (is_tidy table)) circuit.tables) new h in
    subst (IsWithin P circuit) is (replaced_within P circuit (tidied table) (λ all. left.tidied table (find_all (λ table. not (is_tidy table)) P circuit.tables table all found)))

constant_within : (P : Table → Type 0) → IsLeft P → (circuit new : Circuit) → write_constant circuit ≡ Some new → IsWithin P circuit new
unfolding write_constant
constant_within P left circuit new h =
    let (table, found, is) = applied (with_constant circuit) (find (λ table. is_some (unwritten_bit table)) circuit.tables) new h in
    let (bit, at) = some_is (unwritten_bit table) (find_test (λ table. is_some (unwritten_bit table)) circuit.tables table found) in
    let made : with_replaced circuit (constant_table table.output bit) ≡ with_constant circuit table =
    ap (λ (o : Option Bool). option_map_or (λ (b : Bool). with_replaced circuit (constant_table table.output b)) o circuit) (sym at) in
    subst (IsWithin P circuit) (made ∙ is) (replaced_within P circuit (constant_table table.output bit) (λ all. left.constant table.output bit))

itself_within : (P : Table → Type 0) (circuit : Circuit) → IsWithin P circuit circuit
itself_within P circuit = record { nodes = omega arith; each = λ all. all }

propagate_within : (P : Table → Type 0) → IsLeft P → (circuit new : Circuit) → propagate_constant circuit ≡ Some new → IsWithin P circuit new
unfolding propagate_constant
propagate_within P left circuit new h =
    let (table, found, is) = applied (with_constant_propagated circuit) (find (λ (t : Table). is_some (written_bit t) && tables_read circuit t.output) circuit.tables) new h in
    subst (IsWithin P circuit) is (by table (written_bit table))
  where
    by : (table : Table) (bit : Option Bool) → IsWithin P circuit (option_map_or (λ (b : Bool). with_tables circuit (map (at_bit table.output b) circuit.tables)) bit circuit)
    by table None = itself_within P circuit
    by table (Some b) = mapped_within P circuit (at_bit table.output b) (left.at table.output b)

collapse_within : (P : Table → Type 0) → IsLeft P → (circuit new : Circuit) → collapse_single_input circuit ≡ Some new → IsWithin P circuit new
unfolding collapse_single_input
collapse_within P left circuit new h =
    let (table, found, is) = applied (with_single_input_collapsed circuit) (find (λ (t : Table). is_some (only_input t.inputs) && tables_read circuit t.output) circuit.tables) new h in
    subst (IsWithin P circuit) is (by table (only_input table.inputs))
  where
    by : (table : Table) (input : Option (List ℕ))
        → IsWithin P circuit (option_map_or (λ (name : List ℕ). with_tables circuit (map (rewired table.output name (is_inverter table)) circuit.tables)) input circuit)
    by table None = itself_within P circuit
    by table (Some name) = mapped_within P circuit (rewired table.output name (is_inverter table)) (left.rewired table.output name (is_inverter table))

latch_within : (P : Table → Type 0) → IsLeft P → (circuit new : Circuit) → fix_constant_latch circuit ≡ Some new → IsWithin P circuit new
unfolding fix_constant_latch
latch_within P left circuit new h =
    let (latch, found, is) = applied (with_latch_fixed circuit) (find (λ (l : Latch). is_some (fixed_bit circuit l)) circuit.latches) new h in
    subst (IsWithin P circuit) is (by latch (found_latch (λ (l : Latch). is_some (fixed_bit circuit l)) circuit.latches latch found) (fixed_bit circuit latch))
  where
    by : (latch : Latch) → has (latch_outputs circuit) latch.output ≡ true → (bit : Option Bool) → IsWithin P circuit (option_map_or (λ (b : Bool). with_fixed circuit latch.output b) bit circuit)
    by latch there None = itself_within P circuit
    by latch there (Some b) = fixed_within P circuit latch.output b there (left.constant latch.output b)

dangling_within : (P : Table → Type 0) (circuit new : Circuit) → remove_dangling circuit ≡ Some new → IsWithin P circuit new
unfolding remove_dangling
dangling_within P circuit new h = cases (all_needed circuit) h
  where
    cases : (t : Bool) → (if t then None else Some (only_needed circuit)) ≡ Some new → IsWithin P circuit new
    cases true e = absurd (none-some new e)
    cases false e = subst (IsWithin P circuit) (same_Some (only_needed circuit) new e) (needed_within_old P circuit)

step_within : (P : Table → Type 0) → IsLeft P → (circuit new : Circuit) → sweep_step circuit ≡ Some new → IsWithin P circuit new
unfolding sweep_step
step_within P left circuit new h = first (tidy_table circuit) refl (write_constant circuit) refl (propagate_constant circuit) refl (collapse_single_input circuit) refl (fix_constant_latch circuit) refl h
  where
    first : (a : Option Circuit) → tidy_table circuit ≡ a → (b : Option Circuit) → write_constant circuit ≡ b → (c : Option Circuit) → propagate_constant circuit ≡ c
        → (d : Option Circuit) → collapse_single_input circuit ≡ d → (e : Option Circuit) → fix_constant_latch circuit ≡ e
        → option_or a (option_or b (option_or c (option_or d (option_or e (remove_dangling circuit))))) ≡ Some new → IsWithin P circuit new
    first (Some x) p b q c r d s e t k = tidy_within P left circuit new (p ∙ k)
    first None p (Some x) q c r d s e t k = constant_within P left circuit new (q ∙ k)
    first None p None q (Some x) r d s e t k = propagate_within P left circuit new (r ∙ k)
    first None p None q None r (Some x) s e t k = collapse_within P left circuit new (s ∙ k)
    first None p None q None r None s (Some x) t k = latch_within P left circuit new (t ∙ k)
    first None p None q None r None s None t k = dangling_within P circuit new k

-- a step makes no circuit larger, and nor does a chain of them
pub step_no_larger : (circuit new : Circuit) → sweep_step circuit ≡ Some new → IsNoLarger circuit new
step_no_larger circuit new h = record {
  nodes = (step_within (HasInputs 0) (inputs_left 0) circuit new h).nodes;
  rows = λ most one. (step_within (HasRows most) (rows_left most one) circuit new h).each;
  inputs = λ most. (step_within (HasInputs most) (inputs_left most) circuit new h).each;
}

leads_no_larger : (between : List Circuit) (circuit new : Circuit) → Leads sweep_step between circuit new → IsNoLarger circuit new
leads_no_larger [] circuit new same = subst (IsNoLarger circuit) same (record { nodes = omega arith; rows = λ most one all. all; inputs = λ most all. all })
leads_no_larger (next ∷ rest) circuit new steps =
    let first : IsNoLarger circuit next = step_no_larger circuit next steps.0 in
    let others : IsNoLarger next new = leads_no_larger rest next new steps.1 in
    let fewer : nodes_of next ≤ nodes_of circuit = first.nodes in
    let few : nodes_of new ≤ nodes_of next = others.nodes in record {
      nodes = omega arith;
      rows = λ most one all. others.rows most one (first.rows most one all);
      inputs = λ most all. others.inputs most (first.inputs most all);
    }

pub chain_no_larger : (circuit new : Circuit) → Chain sweep_step circuit new → IsNoLarger circuit new
chain_no_larger circuit new chain = leads_no_larger chain.reached.between circuit new chain.reached.steps
