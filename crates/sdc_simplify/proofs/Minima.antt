-- The minimum of a table: its rows of phase 1, and their minimum where ties stand for local don't-cares.
use Rattle.std.proofs.Common.{◌≡◌, ℕ, ◌<◌, ◌≤◌, Bool, true, false, not, ◌&&◌, ltb, Option, Some, None}
use Rattle.std.proofs.Common.{List, map, length, refl, sym, ap, ap₂, ◌∙◌, subst, if◌then◌else◌, inl, inr}
use Rattle.std.proofs.lemmas.Bool.{lt-ltb, le-ltb}
use Rattle.circuit_model.specs.Names.{all_different}
use Rattle.circuit_model.specs.declared.circuit.Table.{Table}
use Rattle.circuit_model.specs.declared.circuit.Circuit.{Circuit}
use Rattle.cube_cover.specs.Covers.{Shape}
use Rattle.cover_ops.specs.Shannon.{list_rows}
use Rattle.cover_ops.specs.declared.list.ListFault.{ListFault}
use Rattle.cover_ops.specs.declared.list.ListFault.TheVariants.{CubeLimit, Memory as NoMemory}
use Rattle.cover_min.specs.Minimum.{Meaning, minimum_rows}
use Rattle.cover_min.specs.Refusals.{RefusesMinimum, no_refusals}
use Rattle.cover_min.proofs.Minima.{minimum_same}
use Rattle.cover_search.specs.Ties.{meaning_of as meaning_of_tied}
use Rattle.cover_search.specs.declared.tied.NodeConstraint.{NodeConstraint}
use Rattle.sdc_simplify.specs.Local.{is_local}
use Rattle.sdc_simplify.specs.Minimized.{on_rows, meaning_of, minimized, is_list_long}
use Rattle.sdc_simplify.proofs.Minimal.{on_wide, on_value}
use Rattle.net_core.specs.Places.{written_of}
use Rattle.net_core.specs.Tables.{places_of, characters_of, named, HasCharacters, IsOverInputs}
use Rattle.net_core.specs.declared.places.Entry.{Entry}
use Rattle.net_core.specs.declared.table.CoverTable.{CoverTable}
use Rattle.net_core.proofs.Rows.{all_places_back}
use Rattle.circuit_tables.specs.Tidy.{tidied}
use Rattle.circuit_tables.proofs.Tidied.{tidied_once}
use Rattle.sdc_simplify.specs.Simplify.{IsCause}
use Rattle.sdc_simplify.specs.Simplified.{own_refusal}
use Rattle.sdc_simplify.specs.Turns.{seen, AreLocal}
use Rattle.sdc_simplify.specs.declared.fault.SimplifyFault.{SimplifyFault}
use Rattle.sdc_simplify.specs.declared.fault.SimplifyFault.TheVariants.{Memory}
use Rattle.sis_base.specs.declared.limits.TheConstants.{MAX_ROWS}

-- where no test is refused, no minimum is
pub never_refused : (meaning : Meaning) (rows : List (List (Option Bool)))
    → RefusesMinimum meaning no_refusals rows → ⊥
never_refused meaning rows (inl literal) = literal.refused.refused
never_refused meaning rows (inr row) = row.refused

-- the minimum where ties are kept is that where no point is a local don't-care
pub least_same : {R : Type 0} (circuit : Circuit) (table : Table) (ties : List (NodeConstraint R)) → HasCharacters (length table.inputs) table.rows → AreLocal circuit table ties
    → minimum_rows (meaning_of_tied (record { width = length table.inputs; rows = on_rows table; ties = seen ties })) (on_rows table) ≡ minimum_rows (meaning_of table (is_local circuit table)) (on_rows table)
least_same circuit table ties shaped local =
    minimum_same (meaning_of_tied (record { width = length table.inputs; rows = on_rows table; ties = seen ties })) (meaning_of table (is_local circuit table)) (on_rows table) (on_wide table shaped)
    (λ point long. ap₂ (λ (a b : Bool). a && b) (on_value table point long) (local.kept point long))
    (λ point long. ap₂ (λ (a b : Bool). not a && b) (on_value table point long) (local.kept point long))

module _ {R : Type 0} where
  -- the rows of phase 1 of an entry's table
  pub on_own : (entry : Entry R) (made : Shape) → IsOverInputs entry.table → entry.table.phase ≡ true → made ≡ entry.table.cover
      → made ≡ record { width = length entry.table.inputs; rows = on_rows (written_of entry) }
  unfolding on_rows named
  on_own entry made over phase is =
      is
      ∙ (ap (λ (width : ℕ). record { width = width; rows = entry.table.cover.rows }) over
      ∙ ap (λ (rows : List (List (Option Bool))). record { width = length entry.table.inputs; rows = rows })
      (sym (all_places_back entry.table.cover.rows)
      ∙ ap (λ (b : Bool). if b then map places_of (map characters_of entry.table.cover.rows)
      else list_rows (length entry.table.inputs) false (map places_of (map characters_of entry.table.cover.rows))) (sym phase)))

  listed_rows : (entry : Entry R) → IsOverInputs entry.table
      → list_rows entry.table.cover.width false entry.table.cover.rows ≡ list_rows (length entry.table.inputs) false (map places_of (map characters_of entry.table.cover.rows))
  listed_rows entry over = ap₂ (λ (width : ℕ) (rows : List (List (Option Bool))). list_rows width false rows) over (sym (all_places_back entry.table.cover.rows))

  pub on_listed : (entry : Entry R) (made : Shape) → IsOverInputs entry.table → entry.table.phase ≡ false
      → made ≡ record { width = entry.table.cover.width; rows = list_rows entry.table.cover.width false entry.table.cover.rows }
      → made ≡ record { width = length entry.table.inputs; rows = on_rows (written_of entry) }
  unfolding on_rows named
  on_listed entry made over phase is =
      is
      ∙ (ap (λ (width : ℕ). record { width = width; rows = list_rows entry.table.cover.width false entry.table.cover.rows }) over
      ∙ ap (λ (rows : List (List (Option Bool))). record { width = length entry.table.inputs; rows = rows })
      (listed_rows entry over
      ∙ ap (λ (b : Bool). if b then map places_of (map characters_of entry.table.cover.rows)
      else list_rows (length entry.table.inputs) false (map places_of (map characters_of entry.table.cover.rows))) (sym phase)))

  -- whether the on-list is too long
  pub own_short : (entry : Entry R) → entry.table.phase ≡ true → is_list_long (written_of entry) ≡ false
  unfolding is_list_long named
  own_short entry phase =
      ap (λ (b : Bool). not b && ltb MAX_ROWS (length (list_rows (length entry.table.inputs) false (map places_of (map characters_of entry.table.cover.rows))))) phase

  long_by : (entry : Entry R) → IsOverInputs entry.table → entry.table.phase ≡ false
      → is_list_long (written_of entry) ≡ ltb MAX_ROWS (length (list_rows entry.table.cover.width false entry.table.cover.rows))
  unfolding is_list_long named
  long_by entry over phase =
      ap (λ (b : Bool). not b && ltb MAX_ROWS (length (list_rows (length entry.table.inputs) false (map places_of (map characters_of entry.table.cover.rows))))) phase
      ∙ ap (λ (rows : List (List (Option Bool))). ltb MAX_ROWS (length rows)) (sym (listed_rows entry over))

  pub listed_short : (entry : Entry R) → IsOverInputs entry.table → entry.table.phase ≡ false → length (list_rows entry.table.cover.width false entry.table.cover.rows) ≤ MAX_ROWS → is_list_long (written_of entry) ≡ false
  listed_short entry over phase short = long_by entry over phase ∙ le-ltb MAX_ROWS (length (list_rows entry.table.cover.width false entry.table.cover.rows)) short

  pub listed_cause : (entry : Entry R) (fault : SimplifyFault) → IsOverInputs entry.table → entry.table.phase ≡ false → MAX_ROWS < length (list_rows entry.table.cover.width false entry.table.cover.rows)
      → IsCause (Some entry.output) fault → IsCause (own_refusal (written_of entry)) fault
  unfolding named
  listed_cause entry fault over phase long cause =
      subst (λ (b : Bool). IsCause (if b then Some entry.output else None) fault)
      (sym (long_by entry over phase ∙ lt-ltb MAX_ROWS (length (list_rows entry.table.cover.width false entry.table.cover.rows)) long)) cause

  pub listed_fault : (entry : Entry R) (list_fault : ListFault) (fault : SimplifyFault) → IsOverInputs entry.table → entry.table.phase ≡ false
      → (list_fault ≡ CubeLimit → MAX_ROWS < length (list_rows entry.table.cover.width false entry.table.cover.rows)) → (list_fault ≡ CubeLimit → IsCause (Some entry.output) fault)
      → (list_fault ≡ NoMemory → fault ≡ Memory) → IsCause (own_refusal (written_of entry)) fault
  listed_fault entry CubeLimit fault over phase long cause memory = listed_cause entry fault over phase (long refl) (cause refl)
  listed_fault entry NoMemory fault over phase long cause memory = subst (λ (f : SimplifyFault). IsCause (own_refusal (written_of entry)) f) (sym (memory refl)) tt

  -- the tidy table of the minimum of rows
  pub minimum_named : (table : Table) (is_free : List Bool → Bool) (least : Shape)
      (inputs : List (List ℕ)) (made : CoverTable R)
      → least.rows ≡ minimum_rows (meaning_of table is_free) (on_rows table)
      → inputs ≡ table.inputs
      → ((name : List ℕ) → named name made ≡ tidied (named {R = R} name
      (record { inputs = inputs; cover = least; phase = true })))
      → named table.output made ≡ minimized table is_free
  unfolding minimized named
  minimum_named table is_free least inputs made rows_are inputs_are tidy =
      tidy table.output
      ∙ (ap (λ (names : List (List ℕ)). tidied (record {
        inputs = names;
        output = table.output;
        rows = map characters_of least.rows;
        phase = true;
      })) inputs_are
      ∙ ap (λ (rows : List (List (Option Bool))). tidied (record {
        inputs = table.inputs;
        output = table.output;
        rows = map characters_of rows;
        phase = true;
      })) rows_are)

  -- the table that is made
  pub least_named : (circuit : Circuit) (entry : Entry R) (ties : List (NodeConstraint R)) (cover least : Shape) (inputs : List (List ℕ)) (made : CoverTable R) → HasCharacters (length entry.table.inputs) (written_of entry).rows
      → cover ≡ record { width = length entry.table.inputs; rows = on_rows (written_of entry) }
      → least ≡ record cover { rows = minimum_rows (meaning_of_tied (record { width = cover.width; rows = cover.rows; ties = seen ties })) cover.rows }
      → inputs ≡ entry.table.inputs → ((name : List ℕ) → named name made ≡ tidied (named {R = R} name (record { inputs = inputs; cover = least; phase = true })))
      → AreLocal circuit (written_of entry) ties → named entry.output made ≡ minimized (written_of entry) (is_local circuit (written_of entry))
  unfolding named
  least_named circuit entry ties cover least inputs made shaped cover_is least_is inputs_are tidy local =
      minimum_named (written_of entry) (is_local circuit (written_of entry)) least inputs made rows_are
      inputs_are tidy
    where
      rows_are : least.rows ≡ minimum_rows (meaning_of (written_of entry) (is_local circuit (written_of entry))) (on_rows (written_of entry))
      rows_are = ap (λ (shape : Shape). shape.rows) least_is
          ∙ (ap (λ (shape : Shape). minimum_rows (meaning_of_tied (record { width = shape.width; rows = shape.rows; ties = seen ties })) shape.rows) cover_is
          ∙ least_same circuit (written_of entry) ties shaped local)

  pub least_once : (least made : CoverTable R) (name : List ℕ) → named name made ≡ tidied (named name least) → all_different made.inputs ≡ true
  unfolding named
  least_once least made name tidy = ap (λ (table : Table). all_different table.inputs) tidy ∙ tidied_once (named name least)
