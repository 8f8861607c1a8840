-- Minima stay within the bounds of a network, and so does a network after simplification.
use Rattle.std.proofs.Common.{◌≡◌, ℕ, ◌+◌, ◌<◌, ◌≤◌, ◌^◌, suc, Bool, true, false, not, ◌&&◌, ltb, if◌then◌else◌, Option, Some, None, List, [], ◌∷◌, ◌++◌, map, length, bytes_eq, refl, sym, ap, subst, arith}
use Rattle.std.specs.List.{AllByRecursion}
use Rattle.std.specs.Option.{option_map_or}
use Rattle.std.proofs.lemmas.Bool.{ltb-false}
use Rattle.std.proofs.lemmas.List.{length-map, length-append}
use Rattle.std.proofs.lemmas.Option.{none-some}
use Rattle.circuit_model.specs.Soundness.{IsShaped, IsSound}
use Rattle.circuit_model.specs.Values.{driver}
use Rattle.circuit_model.specs.declared.circuit.Table.{Table}
use Rattle.circuit_model.specs.declared.circuit.Circuit.{Circuit}
use Rattle.circuit_laws.specs.Edits.{replaced, with_replaced}
use Rattle.circuit_laws.proofs.Drivers.{driver_all}
use Rattle.cover_ops.specs.Shannon.{list_rows}
use Rattle.cover_min.specs.Points.{has_own_point}
use Rattle.cover_min.specs.Minimum.{widened, with_needed, needed_behind, minimum_rows}
use Rattle.net_core.specs.Reads.{IsBounded, HasBounds}
use Rattle.net_core.specs.Tables.{places_of, characters_of}
use Rattle.circuit_tables.specs.Folding.{folded}
use Rattle.circuit_tables.proofs.Folded.{folded_shaped, folded_input_count, folded_row_count}
use Rattle.circuit_order.specs.Order.{order_of}
use Rattle.net_work.proofs.Along.{kept_along}
use Rattle.circuit_tables.specs.Tidy.{IsWide, used_places, rows_once, chosen, narrowed, with_rows_once, tidied}
use Rattle.circuit_tables.proofs.Tidied.{chosen_small, once_small, phase_kept, shaped_some}
use Rattle.sdc_simplify.specs.Local.{is_local}
use Rattle.sdc_simplify.specs.Minimized.{on_rows, meaning_of, with_minimum_rows, minimized, is_list_long}
use Rattle.sdc_simplify.specs.Simplified.{Freedom, with_minimum, is_refused, minimum_refusal, simplify_refusal, simplified}
use Rattle.sdc_simplify.proofs.Minimal.{minimum_wide}
use Rattle.sdc_simplify.proofs.InTurns.{turn_sound}
use Rattle.sis_base.specs.declared.limits.TheConstants.{MAX_ROWS}

-- the minimum of rows has no more of them
needed_few : (on : List Bool → Bool) (kept rows : List (List (Option Bool))) → length (needed_behind on kept rows) ≤ length kept + length rows
unfolding needed_behind with_needed
needed_few on kept [] = omega arith
needed_few on kept (row ∷ rest) = cases (has_own_point on row (kept ++ rest)) (needed_few on (kept ++ row ∷ []) rest) (needed_few on kept rest)
  where
    cases : (b : Bool) → length (needed_behind on (kept ++ row ∷ []) rest) ≤ length (kept ++ row ∷ []) + length rest → length (needed_behind on kept rest) ≤ length kept + length rest
        → length (needed_behind on (if b then kept ++ row ∷ [] else kept) rest) ≤ length kept + suc (length rest)
    cases true stays goes = let one : length (kept ++ row ∷ []) ≡ length kept + 1 = length-append kept (row ∷ []) in omega (arith, stays, one)
    cases false stays goes = omega (arith, goes)

minimum_few : (table : Table) (is_free : List Bool → Bool) → length (with_minimum_rows table is_free).rows ≤ length (on_rows table)
unfolding minimum_rows
minimum_few table is_free =
    let off : List Bool → Bool = (meaning_of table is_free).off in
    let primes : List (List (Option Bool)) = map (widened off) (on_rows table) in
    let left : List (List (Option Bool)) = needed_behind (meaning_of table is_free).on [] primes in
    let few : length left ≤ 0 + length primes = needed_few (meaning_of table is_free).on [] primes in
    let same : length primes ≡ length (on_rows table) = length-map (on_rows table) (widened off) in
    let written : length (map characters_of left) ≡ length left = length-map left characters_of in
    omega (arith, few, same, written)

narrowed_rows : (table : Table) → length (narrowed (with_rows_once table)).rows ≤ length table.rows
unfolding narrowed
narrowed_rows table =
    let marks : List Bool = used_places table.inputs (rows_once table.rows) in
    let same : length (map (chosen marks) (rows_once table.rows)) ≡ length (rows_once table.rows) = length-map (rows_once table.rows) (chosen marks) in
    omega (arith, same, once_small table.rows)

narrowed_inputs : (table : Table) → length (narrowed (with_rows_once table)).inputs ≤ length table.inputs
unfolding narrowed
narrowed_inputs table = chosen_small (used_places table.inputs (rows_once table.rows)) table.inputs

tidied_of : (table : Table) → IsShaped table → tidied table ≡ narrowed (with_rows_once (folded table))
unfolding tidied
tidied_of table shaped =
    ap (λ (made : Table). narrowed (with_rows_once made)) (phase_kept (folded table) (shaped_some (folded table).rows (folded table).phase (folded_shaped table shaped).1))

tidied_bounded : (table : Table) → IsShaped table → IsBounded table → IsBounded (tidied table)
tidied_bounded table shaped bounded =
    subst IsBounded (sym (tidied_of table shaped)) record {
      rows = omega (arith, bounded.rows, narrowed_rows (folded table), folded_row_count table shaped);
      inputs = omega (arith, bounded.inputs, narrowed_inputs (folded table), folded_input_count table);
    }

-- rows of phase 1 are as many as the table's, or the on-list's, which is not long
on_few : (table : Table) → is_list_long table ≡ false → length table.rows < 2 ^ 33 → length (on_rows table) < 2 ^ 33
unfolding is_list_long on_rows
on_few table short few = cases table.phase short
  where
    listed : List (List (Option Bool))
    listed = list_rows (length table.inputs) false (map places_of table.rows)

    cases : (phase : Bool) → (not phase && ltb MAX_ROWS (length listed)) ≡ false → length (if phase then map places_of table.rows else listed) < 2 ^ 33
    cases true h = let same : length (map places_of table.rows) ≡ length table.rows = length-map table.rows places_of in omega (arith, same, few)
    cases false h = let most : length listed ≤ MAX_ROWS = ltb-false MAX_ROWS (length listed) h in omega (arith, most)

pub minimized_bounded : (table : Table) (is_free : List Bool → Bool) → is_list_long table ≡ false → IsWide table → IsBounded table → IsBounded (minimized table is_free)
unfolding minimized
minimized_bounded table is_free short wide bounded =
    tidied_bounded (with_minimum_rows table is_free) (minimum_wide table is_free wide, λ none. refl) record {
      rows = omega (arith, minimum_few table is_free, on_few table short bounded.rows);
      inputs = bounded.inputs;
    }

-- a table that gives place to another one
replaced_bounded : (tables : List Table) (new : Table) → AllByRecursion IsBounded tables → IsBounded new → AllByRecursion IsBounded (replaced tables new) × (length (replaced tables new) ≡ length tables)
unfolding replaced
replaced_bounded [] new all this = (tt, refl)
replaced_bounded (first ∷ tables) new all this = cases (bytes_eq new.output first.output) (replaced_bounded tables new all.1 this)
  where
    cases : (b : Bool) → AllByRecursion IsBounded (replaced tables new) × (length (replaced tables new) ≡ length tables)
        → AllByRecursion IsBounded (if b then new ∷ tables else first ∷ replaced tables new) × (length (if b then new ∷ tables else first ∷ replaced tables new) ≡ suc (length tables))
    cases true rest = ((this, all.1), refl)
    cases false rest = ((all.0, rest.0), ap suc rest.1)

with_bounds : (circuit : Circuit) (new : Table) → HasBounds circuit → IsBounded new → HasBounds (with_replaced circuit new)
unfolding with_replaced
with_bounds circuit new bounds this =
    let made = replaced_bounded circuit.tables new bounds.tables this in record {
      nodes = omega (arith, bounds.nodes, made.1);
      tables = made.0;
    }

pub turn_bounded : (is_free : Freedom) (circuit : Circuit) (name : List ℕ) → IsSound circuit
    → HasBounds circuit → is_refused circuit name ≡ false
    → HasBounds (with_minimum is_free circuit name)
unfolding with_minimum
turn_bounded is_free circuit name sound bounds passed = cases (driver circuit.tables name) refl passed
  where
    cases : (found : Option Table) → driver circuit.tables name ≡ found → option_map_or is_list_long found false ≡ false
        → HasBounds (option_map_or (λ table. with_replaced circuit (minimized table (is_free circuit table))) found circuit)
    cases None at short = bounds
    cases (Some table) at short =
        with_bounds circuit (minimized table (is_free circuit table)) bounds
        (minimized_bounded table (is_free circuit table) short (driver_all IsShaped circuit.tables sound.shaped name table at).0 (driver_all IsBounded circuit.tables bounds.tables name table at))

not_refused : (refused : Bool) (name : List ℕ) → (if refused then Some name else None) ≡ None → refused ≡ false
not_refused true name h = absurd (none-some name (sym h))
not_refused false name h = refl

pub simplified_bounded : (circuit : Circuit) → IsSound circuit → HasBounds circuit → simplify_refusal circuit ≡ None → HasBounds (simplified circuit)
unfolding simplified
simplified_bounded circuit sound bounds none =
    (kept_along (λ (now : Circuit). IsSound now × HasBounds now) (with_minimum is_local) minimum_refusal
    (λ now name are passed. (turn_sound now name are.0, turn_bounded is_local now name are.0 are.1 (not_refused (is_refused now name) name passed)))
    (order_of circuit.tables) circuit (sound, bounds) none).1
