-- Tables into which others are composed keep within the bounds of a network, and so does a network
-- after elimination.
use Rattle.std.proofs.Common.{◌≡◌, ℕ, ℤ, ◌+◌, ◌<◌, ◌≤◌, ◌^◌, suc, Bool, true, false, not, ◌&&◌, ◌||◌, if◌then◌else◌, Option, Some, None, List, [], ◌∷◌, map, filter, length, ltb, refl, sym, ap, ◌∙◌, subst, arith}
use Rattle.std.specs.Prelude.{is_none, int_lt}
use Rattle.std.specs.List.{AllByRecursion, list_all}
use Rattle.std.specs.Option.{option_map, option_map_or}
use Rattle.std.proofs.lemmas.Bool.{ltb-false}
use Rattle.std.proofs.lemmas.List.{length-map}
use Rattle.std.proofs.lemmas.Option.{none-some, same_Some}
use Rattle.circuit_model.specs.Names.{all_different}
use Rattle.circuit_model.specs.Soundness.{IsSound}
use Rattle.circuit_model.specs.declared.circuit.Tri.{Tri}
use Rattle.circuit_model.specs.declared.circuit.Table.{Table}
use Rattle.circuit_model.specs.declared.circuit.Circuit.{Circuit}
use Rattle.circuit_laws.specs.Chains.{Leads, Chain}
use Rattle.circuit_laws.specs.Edits.{with_kept, tables_kept, is_other, is_root}
use Rattle.circuit_tables.specs.Folding.{folded, folded_rows, with_rows, each_once, constant_one}
use Rattle.circuit_tables.proofs.Folded.{folded_input_count}
use Rattle.circuit_tables.proofs.Merging.{fewer_rows}
use Rattle.circuit_tables.specs.Tidy.{tidied, narrowed, with_phase_one, some_row_or_phase_one, used_places, chosen, rows_once}
use Rattle.circuit_tables.proofs.Tidied.{chosen_small, once_small}
use Rattle.net_core.specs.Reads.{IsBounded, HasBounds, value_of}
use Rattle.alg_tables.specs.Taking.{composed_into, take_refusal, refusal_at, is_list_long, composed_at, read_place}
use Rattle.alg_tables.specs.declared.taking.ComposeFault.TheVariants.{CubeLimit, TooWide}
use Rattle.net_elim.specs.Eliminating.{all_take, is_candidate, least, with_eliminated, eliminate_step}
use Rattle.net_elim.proofs.Stepping.{filter_all, all_weaker, least_all, step_reduced}
use Rattle.sis_base.specs.declared.limits.TheConstants.{MAX_ROWS}

-- the normal form has at most one row more, and no more inputs
folded_few : (table : Table) → length (folded table).rows ≤ suc (length table.rows)
unfolding folded with_rows
folded_few table = cases (all_different table.inputs)
  where
    by : (rows : List (List Tri)) → length rows ≤ length table.rows
        → length (with_rows table rows).rows ≤ suc (length table.rows)
    by [] few = one table.phase
      where
        one : (b : Bool) → length (if b then record table {
          inputs = each_once table.inputs;
          rows = [];
        } else constant_one table.output).rows ≤ suc (length table.rows)
        one true = omega arith
        one false = omega arith
    by (row ∷ rows) few = omega (arith, few)

    cases : (b : Bool) → length (if b then table else with_rows table
        (folded_rows table.inputs table.rows)).rows ≤ suc (length table.rows)
    cases true = omega arith
    cases false = by (folded_rows table.inputs table.rows) (fewer_rows table.inputs table.rows)

phase_rows : (made : Table) (n : ℕ) → length made.rows ≤ suc n
    → length (with_phase_one made).rows ≤ suc n
unfolding with_phase_one
phase_rows made n few = cases (some_row_or_phase_one made.rows made.phase)
  where
    cases : (b : Bool) → length (if b then made else constant_one made.output).rows ≤ suc n
    cases true = few
    cases false = omega arith

phase_inputs : (made : Table) (n : ℕ) → length made.inputs ≤ n
    → length (with_phase_one made).inputs ≤ n
unfolding with_phase_one
phase_inputs made n few = cases (some_row_or_phase_one made.rows made.phase)
  where
    cases : (b : Bool) → length (if b then made else constant_one made.output).inputs ≤ n
    cases true = few
    cases false = omega arith

narrowed_rows : (table : Table) → length (narrowed table).rows ≤ length table.rows
unfolding narrowed
narrowed_rows table =
    let same : length (map (chosen (used_places table.inputs table.rows)) table.rows)
    ≡ length table.rows = length-map table.rows
    (chosen (used_places table.inputs table.rows)) in
    omega (arith, same)

narrowed_inputs : (table : Table) → length (narrowed table).inputs ≤ length table.inputs
unfolding narrowed
narrowed_inputs table = chosen_small (used_places table.inputs table.rows) table.inputs

tidied_rows : (table : Table) → length (tidied table).rows ≤ suc (length table.rows)
unfolding tidied
tidied_rows table =
    let ready : Table = with_phase_one (folded table) in
    let few : length ready.rows ≤ suc (length table.rows) = phase_rows (folded table)
    (length table.rows) (folded_few table) in
    let once : length (rows_once ready.rows) ≤ length ready.rows = once_small ready.rows in
    let narrow : length (narrowed (record ready { rows = rows_once ready.rows })).rows
    ≤ length (rows_once ready.rows) = narrowed_rows
    (record ready { rows = rows_once ready.rows }) in
    omega (arith, few, once, narrow)

tidied_inputs : (table : Table) → length (tidied table).inputs ≤ length table.inputs
unfolding tidied
tidied_inputs table =
    let ready : Table = with_phase_one (folded table) in
    let few : length ready.inputs ≤ length table.inputs = phase_inputs (folded table)
    (length table.inputs) (folded_input_count table) in
    let narrow : length (narrowed (record ready { rows = rows_once ready.rows })).inputs
    ≤ length ready.inputs = narrowed_inputs (record ready { rows = rows_once ready.rows }) in
    omega (arith, few, narrow)

-- what is not refused is small
few_enough : (long : Bool) (most rows inputs : ℕ)
    → (if long || ltb most rows then Some CubeLimit
    else (if ltb 1000 inputs then Some (TooWide inputs) else None)) ≡ None
    → (rows ≤ most) × (inputs ≤ 1000)
few_enough true most rows inputs h = absurd (none-some CubeLimit (sym h))
few_enough false most rows inputs h = cases (ltb most rows) refl (ltb 1000 inputs) refl h
  where
    cases : (a : Bool) → ltb most rows ≡ a → (b : Bool) → ltb 1000 inputs ≡ b
        → (if a then Some CubeLimit else (if b then Some (TooWide inputs) else None)) ≡ None
        → (rows ≤ most) × (inputs ≤ 1000)
    cases true e b f k = absurd (none-some CubeLimit (sym k))
    cases false e true f k = absurd (none-some (TooWide inputs) (sym k))
    cases false e false f k = (ltb-false most rows e, ltb-false 1000 inputs f)

pub taken_bounded : (most : ℕ) (inner outer : Table) → suc most < 2 ^ 33
    → take_refusal MAX_ROWS most inner outer ≡ None → IsBounded outer
    → IsBounded (composed_into inner outer)
unfolding composed_into take_refusal
taken_bounded most inner outer small none bounded = cases (read_place inner outer) none
  where
    cases : (o : Option ℕ) → option_map_or (λ place. refusal_at MAX_ROWS most place inner outer) o None
        ≡ None → IsBounded (option_map_or (λ place. tidied (composed_at place inner outer)) o outer)
    cases None h = bounded
    cases (Some place) h =
        let (rows, inputs) = few_enough (is_list_long MAX_ROWS place inner outer) most
        (length (composed_at place inner outer).rows)
        (length (composed_at place inner outer).inputs) h in
        record {
          rows = omega (arith, rows, small, tidied_rows (composed_at place inner outer));
          inputs = omega (arith, inputs, tidied_inputs (composed_at place inner outer));
        }

-- all fanouts of a table that they can take stay small
refuses_nothing : {A : Type 0} (found : Option A) → is_none found ≡ true → found ≡ None
refuses_nothing None h = refl
refuses_nothing (Some fault) h = cc

second : (x y : Bool) → (x && y) ≡ true → y ≡ true
second true y h = h
second false y h = cc

first_of_both : (x y : Bool) → (x && y) ≡ true → x ≡ true
first_of_both true y h = refl
first_of_both false y h = cc

all_taken : (most : ℕ) (inner : Table) (tables : List Table) → suc most < 2 ^ 33
    → list_all (λ (outer : Table). is_none (take_refusal MAX_ROWS most inner outer)) tables ≡ true
    → AllByRecursion IsBounded tables → AllByRecursion IsBounded (map (composed_into inner) tables)
all_taken most inner [] small take all = tt
all_taken most inner (outer ∷ tables) small take all = (
  taken_bounded most inner outer small
      (refuses_nothing (take_refusal MAX_ROWS most inner outer)
      (first_of_both (is_none (take_refusal MAX_ROWS most inner outer)) _ take)) all.0,
  all_taken most inner tables small
      (second (is_none (take_refusal MAX_ROWS most inner outer)) _ take) all.1,
)

fewer_kept : (test : Table → Bool) (tables : List Table)
    → length (filter test tables) ≤ length tables
fewer_kept test [] = omega arith
fewer_kept test (table ∷ tables) = cases (test table) (fewer_kept test tables)
  where
    cases : (b : Bool) → length (filter test tables) ≤ length tables
        → length (if b then table ∷ filter test tables else filter test tables)
        ≤ suc (length tables)
    cases true h = omega (arith, h)
    cases false h = omega (arith, h)

-- a circuit with some of these tables and as many latches
pub kept_bounded : (circuit made : Circuit) (test : Table → Bool) (tables : List Table)
    → made.tables ≡ filter test tables → length made.latches ≡ length circuit.latches
    → AllByRecursion IsBounded tables → length tables ≡ length circuit.tables → HasBounds circuit
    → HasBounds made
kept_bounded circuit made test tables is latches all long bounds =
    let few : length (filter test tables) ≤ length tables = fewer_kept test tables in
    let same : length made.tables ≡ length (filter test tables) = ap
    (λ (ts : List Table). length ts) is in
    let nodes : length circuit.tables + length circuit.latches < 2 ^ 29 = bounds.nodes in
    record {
      nodes = omega (arith, few, same, nodes, latches, long);
      tables = subst (λ (ts : List Table). AllByRecursion IsBounded ts) (sym is)
          (all_weaker (λ (table : Table). IsBounded table × (test table ≡ true)) IsBounded
          (λ table h. h.0) (filter test tables) (filter_all IsBounded test tables all));
    }

eliminated_tables : (circuit : Circuit) (inner : Table)
    → (with_eliminated circuit inner).tables
    ≡ filter (λ (table : Table). is_other inner.output table.output)
    (map (composed_into inner) circuit.tables)
unfolding with_kept tables_kept
eliminated_tables circuit inner = refl

candidate_taken : (threshold : ℤ) (rows : ℕ) (circuit : Circuit) (table : Table)
    → is_candidate threshold rows circuit table ≡ true → all_take rows circuit table ≡ true
unfolding is_candidate
candidate_taken threshold rows circuit table h =
    second (not (int_lt threshold (value_of circuit.tables table.output)))
    (all_take rows circuit table) (second (not (is_root circuit table.output)) _ h)

eliminated_bounded : (threshold : ℤ) (rows : ℕ) (circuit new : Circuit) (inner : Table)
    → suc rows < 2 ^ 33 → IsSound circuit → eliminate_step threshold rows circuit ≡ Some new
    → new ≡ with_eliminated circuit inner → is_candidate threshold rows circuit inner ≡ true
    → HasBounds circuit → HasBounds new
unfolding all_take
eliminated_bounded threshold rows circuit new inner small sound step is candidate bounds =
    kept_bounded circuit new (λ (table : Table). is_other inner.output table.output)
    (map (composed_into inner) circuit.tables)
    (ap (λ (c : Circuit). c.tables) is ∙ eliminated_tables circuit inner)
    (ap (λ (c : Circuit). length c.latches)
    (step_reduced threshold rows circuit new sound step).change.rest)
    (all_taken rows inner circuit.tables small
    (candidate_taken threshold rows circuit inner candidate) bounds.tables)
    (length-map circuit.tables (composed_into inner)) bounds

all_true : (tables : List Table) → AllByRecursion (λ (table : Table). Unit {0}) tables
all_true [] = tt
all_true (table ∷ tables) = (tt, all_true tables)

step_bounded : (threshold : ℤ) (rows : ℕ) (circuit new : Circuit) → suc rows < 2 ^ 33
    → IsSound circuit → eliminate_step threshold rows circuit ≡ Some new → HasBounds circuit
    → HasBounds new
unfolding eliminate_step
step_bounded threshold rows circuit new small sound step bounds =
    cases (least (λ (table : Table). value_of circuit.tables table.output)
    (filter (is_candidate threshold rows circuit) circuit.tables)) refl step
  where
    cases : (o : Option Table) → least (λ (table : Table). value_of circuit.tables table.output)
        (filter (is_candidate threshold rows circuit) circuit.tables) ≡ o
        → option_map (with_eliminated circuit) o ≡ Some new → HasBounds new
    cases None found h = absurd (none-some new h)
    cases (Some inner) found h =
        let candidate = least_all (λ (table : Table). Unit {0}
        × (is_candidate threshold rows circuit table ≡ true))
        (λ (table : Table). value_of circuit.tables table.output)
        (filter (is_candidate threshold rows circuit) circuit.tables)
        (filter_all (λ (table : Table). Unit {0})
        (is_candidate threshold rows circuit) circuit.tables (all_true circuit.tables)) inner
        found in
        eliminated_bounded threshold rows circuit new inner small sound step
        (sym (same_Some (with_eliminated circuit inner) new h)) candidate.1 bounds

leads_bounded : (threshold : ℤ) (rows : ℕ) (between : List Circuit) (circuit new : Circuit)
    → suc rows < 2 ^ 33 → IsSound circuit
    → Leads (eliminate_step threshold rows) between circuit new
    → HasBounds circuit → HasBounds new
leads_bounded threshold rows [] circuit new small sound leads bounds = subst HasBounds leads bounds
leads_bounded threshold rows (next ∷ rest) circuit new small sound leads bounds =
    leads_bounded threshold rows rest next new small
    (step_reduced threshold rows circuit next sound leads.0).change.sound leads.1
    (step_bounded threshold rows circuit next small sound leads.0 bounds)

pub chain_bounded : (threshold : ℤ) (rows : ℕ) (circuit new : Circuit) → rows + 1 < 2 ^ 33
    → IsSound circuit → Chain (eliminate_step threshold rows) circuit new → HasBounds circuit
    → HasBounds new
chain_bounded threshold rows circuit new small sound chain bounds =
    leads_bounded threshold rows chain.reached.between circuit new
    (omega (arith, small)) sound chain.reached.steps bounds

-- the chain of steps of the working network, as one of the network
pub chain_told : (threshold kept : ℤ) (rows : ℕ) (network begun end made : Circuit)
    → kept ≡ threshold
    → begun ≡ network → made ≡ end → Chain (eliminate_step kept rows) begun end
    → Chain (eliminate_step threshold rows) network made
chain_told threshold kept rows network begun end made same is put chain =
    subst (Chain (eliminate_step threshold rows) network) (sym put)
    (subst (λ (old : Circuit). Chain (eliminate_step threshold rows) old end) is
    (subst (λ (t : ℤ). Chain (eliminate_step t rows) begun end) same chain))
