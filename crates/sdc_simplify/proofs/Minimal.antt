-- The minimum of a table: it has the table's value wherever what is read is not free, and its rows are prime and irredundant.
use Rattle.std.proofs.Common.{◌≡◌, ℕ, Bool, true, false, not, if◌then◌else◌, Option, Some, List, map, length, refl, ap, ◌∙◌}
use Rattle.std.specs.List.{AllByRecursion}
use Rattle.std.proofs.lemmas.Bool.{and_parts, and_from, not-true, not_from_false}
use Rattle.std.proofs.lemmas.List.{length-map}
use Rattle.sis_base.specs.Rows.{some_matches, value_by_phase, IsPoint, HasWidth}
use Rattle.circuit_model.specs.Names.{has, all_different}
use Rattle.circuit_model.specs.Soundness.{IsShaped}
use Rattle.circuit_model.specs.Values.{table_value, driven_value}
use Rattle.circuit_model.specs.declared.circuit.Table.{Table}
use Rattle.cover_ops.specs.Shannon.{list_rows}
use Rattle.cover_ops.proofs.Joins.{list_value, HasWidth-list_rows}
use Rattle.cover_min.specs.Minimum.{minimum_rows}
use Rattle.cover_min.specs.Primes.{Agrees, IsPrime, IsIrredundant}
use Rattle.cover_min.proofs.Minima.{HasWidth-minimum, agrees-minimum, prime-minimum, irredundant-minimum}
use Rattle.net_core.specs.Tables.{places_of, characters_of, HasCharacters}
use Rattle.net_core.proofs.Rows.{all_places_back, width_of_characters}
use Rattle.circuit_tables.proofs.Tidied.{tidied_value, tidied_output, tidied_reads, tidied_once, tidied_shaped}
use Rattle.sdc_simplify.specs.Minimized.{on_rows, meaning_of, with_minimum_rows, minimized}
use Rattle.alg_tables.proofs.Taken.{characters_wide}

-- the rows of phase 1 have the table's width and its value
pub on_wide : (table : Table) → HasCharacters (length table.inputs) table.rows → HasWidth (length table.inputs) (on_rows table)
unfolding on_rows
on_wide table wide = cases table.phase
  where
    cases : (phase : Bool) → HasWidth (length table.inputs) (if phase then map places_of table.rows else list_rows (length table.inputs) false (map places_of table.rows))
    cases true = width_of_characters (length table.inputs) table.rows wide
    cases false = HasWidth-list_rows (length table.inputs) false (map places_of table.rows)

pub on_value : (table : Table) (point : List Bool) → IsPoint (length table.inputs) point → some_matches (on_rows table) point ≡ table_value table point
unfolding on_rows table_value value_by_phase
on_value table point long = cases table.phase
  where
    cases : (phase : Bool) → some_matches (if phase then map places_of table.rows else list_rows (length table.inputs) false (map places_of table.rows)) point
        ≡ value_by_phase phase (map places_of table.rows) point
    cases true = refl
    cases false = list_value (length table.inputs) false (map places_of table.rows) point long

-- they agree with the table's function, and so does their minimum
pub on_agrees : (table : Table) (is_free : List Bool → Bool) → Agrees (meaning_of table is_free) (on_rows table)
on_agrees table is_free = record {
  on = λ point long h. on_value table point long ∙ (and_parts (table_value table point) (not (is_free point)) h).0;
  off = λ point long h. on_value table point long ∙ not-true (table_value table point) (and_parts (not (table_value table point)) (not (is_free point)) h).0;
}

pub minimum_agreeing : (table : Table) (is_free : List Bool → Bool) → HasCharacters (length table.inputs) table.rows → Agrees (meaning_of table is_free) (minimum_rows (meaning_of table is_free) (on_rows table))
minimum_agreeing table is_free wide = agrees-minimum (meaning_of table is_free) (on_rows table) (on_wide table wide) (on_agrees table is_free)

pub minimum_primes : (table : Table) (is_free : List Bool → Bool) → HasCharacters (length table.inputs) table.rows
    → AllByRecursion (IsPrime (meaning_of table is_free)) (minimum_rows (meaning_of table is_free) (on_rows table))
minimum_primes table is_free wide = prime-minimum (meaning_of table is_free) (on_rows table) (on_wide table wide) (on_agrees table is_free)

pub minimum_needed : (table : Table) (is_free : List Bool → Bool) → IsIrredundant (meaning_of table is_free) (minimum_rows (meaning_of table is_free) (on_rows table))
minimum_needed table is_free = irredundant-minimum (meaning_of table is_free) (on_rows table)

-- rows that agree with a table's function have its value where that is not free
agreeing_value : (table : Table) (is_free : List Bool → Bool) (rows : List (List (Option Bool))) (point : List Bool) → Agrees (meaning_of table is_free) rows
    → IsPoint (length table.inputs) point → is_free point ≡ false → some_matches rows point ≡ table_value table point
agreeing_value table is_free rows point agree long care = cases (table_value table point) refl
  where
    cases : (b : Bool) → table_value table point ≡ b → some_matches rows point ≡ b
    cases true e = agree.on point long (and_from (table_value table point) (not (is_free point)) e (not_from_false (is_free point) care))
    cases false e = agree.off point long (and_from (not (table_value table point)) (not (is_free point)) (not_from_false (table_value table point) e) (not_from_false (is_free point) care))

written_value : (table : Table) (rows : List (List (Option Bool))) (point : List Bool) → table_value (record table { rows = map characters_of rows; phase = true }) point ≡ some_matches rows point
unfolding table_value value_by_phase
written_value table rows point = ap (λ (made : List (List (Option Bool))). some_matches made point) (all_places_back rows)

pub minimized_value : (table : Table) (is_free : List Bool → Bool) (value : List ℕ → Bool) → HasCharacters (length table.inputs) table.rows → is_free (map value table.inputs) ≡ false
    → driven_value (Some (minimized table is_free)) value ≡ driven_value (Some table) value
unfolding minimized
minimized_value table is_free value wide care =
    tidied_value (with_minimum_rows table is_free) value
    ∙ written_value table (minimum_rows (meaning_of table is_free) (on_rows table)) (map value table.inputs)
    ∙ agreeing_value table is_free (minimum_rows (meaning_of table is_free) (on_rows table)) (map value table.inputs) (minimum_agreeing table is_free wide) (length-map table.inputs value) care

-- it has the table's output, reads nothing else, each input once, and has a table's shape
pub minimized_output : (table : Table) (is_free : List Bool → Bool) → (minimized table is_free).output ≡ table.output
unfolding minimized
minimized_output table is_free = tidied_output (with_minimum_rows table is_free)

pub minimized_reads : (table : Table) (is_free : List Bool → Bool) (name : List ℕ) → has (minimized table is_free).inputs name ≡ true → has table.inputs name ≡ true
unfolding minimized
minimized_reads table is_free name h = tidied_reads (with_minimum_rows table is_free) name h

pub minimized_once : (table : Table) (is_free : List Bool → Bool) → all_different (minimized table is_free).inputs ≡ true
unfolding minimized
minimized_once table is_free = tidied_once (with_minimum_rows table is_free)

pub minimum_wide : (table : Table) (is_free : List Bool → Bool) → HasCharacters (length table.inputs) table.rows → HasCharacters (length table.inputs) (with_minimum_rows table is_free).rows
minimum_wide table is_free wide =
    characters_wide (length table.inputs) (minimum_rows (meaning_of table is_free) (on_rows table)) (HasWidth-minimum (meaning_of table is_free) (on_rows table) (on_wide table wide))

pub minimized_shaped : (table : Table) (is_free : List Bool → Bool) → HasCharacters (length table.inputs) table.rows → IsShaped (minimized table is_free)
unfolding minimized
minimized_shaped table is_free wide = tidied_shaped (with_minimum_rows table is_free) (minimum_wide table is_free wide)
