-- The tables of parts are added: the circuit stays sound, each signal keeps its table, and each
-- part's table drives its name.
use Rattle.std.proofs.Common.{◌≡◌, ℕ, suc, Bool, true, false, cond, Option, Some, List, [], ◌∷◌, ◌++◌, map, length, bytes_eq, refl, sym, ap, ap₂, ◌∙◌, subst, inl, inr}
use Rattle.std.specs.List.{AllByRecursion}
use Rattle.std.specs.Option.{option_or}
use Rattle.std.proofs.lemmas.Bool.{false≢true, or_cases}
use Rattle.std.proofs.lemmas.List.{length-map}
use Rattle.sis_base.specs.Rows.{some_matches, value_by_phase, HasWidth}
use Rattle.sis_base.specs.Written.{is_word}
use Rattle.circuit_model.specs.Names.{has, all_different}
use Rattle.circuit_model.specs.Values.{driver, driven_value, table_value}
use Rattle.circuit_model.specs.Soundness.{outputs_of, control_of, given, IsShaped, IsSound}
use Rattle.circuit_model.specs.declared.circuit.Table.{Table}
use Rattle.circuit_model.specs.declared.circuit.Circuit.{Circuit}
use Rattle.circuit_laws.specs.Edits.{with_added}
use Rattle.circuit_laws.specs.Fitting.{IsFitting}
use Rattle.circuit_laws.proofs.Names.{same_name, name_itself, name_not, all_from_has, different_head, different_tail}
use Rattle.circuit_laws.proofs.Drivers.{driver_append, driver_output, driver_reads}
use Rattle.circuit_laws.proofs.Paths.{driver_added_own}
use Rattle.circuit_laws.specs.Changes.{IsExtended}
use Rattle.circuit_laws.proofs.Changes.{added_extended, extended_itself, extended_through}
use Rattle.circuit_laws.proofs.Mapped.{live_reads}
use Rattle.net_core.specs.Fresh.{IsNewName}
use Rattle.net_core.specs.Tables.{characters_of, character_of, HasCharacters}
use Rattle.net_core.proofs.Rows.{all_places_back}
use Rattle.net_core.proofs.NewNames.{new_is_word, new_is_free}
use Rattle.net_core.proofs.Counting.{new_is_no_table}
use Rattle.circuit_tables.proofs.Tidied.{tidied_value, tidied_output, tidied_reads, tidied_once, tidied_shaped}
use Rattle.net_decomp.specs.Partings.{part_table, ArePartsAdded}
use Rattle.net_decomp.proofs.Values.{part_bits}

-- a table among others of other signals drives its own
pub driver_among : (before after : List Table) (table : Table) → all_different (outputs_of (before ++ table ∷ after)) ≡ true → driver (before ++ table ∷ after) table.output ≡ Some table
unfolding driver
driver_among [] after table different = ap (λ (b : Bool). cond b (Some table) (driver after table.output)) (name_itself table.output)
driver_among (first ∷ before) after table different =
    let own : driver (before ++ table ∷ after) table.output ≡ Some table =
    driver_among before after table (different_tail first.output (outputs_of (before ++ table ∷ after)) different) in
    ap (λ (b : Bool). cond b (Some first) (driver (before ++ table ∷ after) table.output))
    (name_not table.output first.output (λ same.
    false≢true (sym (different_head first.output (outputs_of (before ++ table ∷ after)) different)
    ∙ subst (λ (name : List ℕ). has (outputs_of (before ++ table ∷ after)) name ≡ true) same (driver_output (before ++ table ∷ after) table.output table own))))
    ∙ own

-- rows of a width, in characters
pub characters_wide : (width : ℕ) (rows : List (List (Option Bool))) → HasWidth width rows → HasCharacters width (map characters_of rows)
unfolding HasWidth
characters_wide width [] wide = tt
characters_wide width (row ∷ rows) wide = (length-map row character_of ∙ wide.0, characters_wide width rows wide.1)

-- the table of a part
pub part_output : (table : Table) (part : List (List (Option Bool))) (name : List ℕ) → (part_table table part name).output ≡ name
unfolding part_table
part_output table part name = tidied_output (record { inputs = table.inputs; output = name; rows = map characters_of part; phase = true })

pub part_reads : (table : Table) (part : List (List (Option Bool))) (name input : List ℕ) → has (part_table table part name).inputs input ≡ true → has table.inputs input ≡ true
unfolding part_table
part_reads table part name input h = tidied_reads (record { inputs = table.inputs; output = name; rows = map characters_of part; phase = true }) input h

pub part_value : (table : Table) (part : List (List (Option Bool))) (name : List ℕ) (value : List ℕ → Bool)
    → driven_value (Some (part_table table part name)) value ≡ some_matches part (map value table.inputs)
unfolding part_table table_value value_by_phase
part_value table part name value =
    tidied_value (record { inputs = table.inputs; output = name; rows = map characters_of part; phase = true }) value
    ∙ ap (λ (made : List (List (Option Bool))). some_matches made (map value table.inputs)) (all_places_back part)

pub part_once : (table : Table) (part : List (List (Option Bool))) (name : List ℕ) → all_different (part_table table part name).inputs ≡ true
unfolding part_table
part_once table part name = tidied_once (record { inputs = table.inputs; output = name; rows = map characters_of part; phase = true })

pub part_shaped : (table : Table) (part : List (List (Option Bool))) (name : List ℕ) → HasWidth (length table.inputs) part → IsShaped (part_table table part name)
unfolding part_table
part_shaped table part name wide =
    tidied_shaped (record { inputs = table.inputs; output = name; rows = map characters_of part; phase = true }) (characters_wide (length table.inputs) part wide)

pub part_fits : (circuit : Circuit) (table : Table) (part : List (List (Option Bool))) (name : List ℕ) → IsSound circuit → driver circuit.tables table.output ≡ Some table
    → HasWidth (length table.inputs) part → IsFitting circuit (part_table table part name)
part_fits circuit table part name sound at wide = record {
  live = all_from_has (λ input. has (given circuit) input ≡ true) (part_table table part name).inputs
      (λ input among. live_reads circuit sound input (driver_reads circuit.tables table.output table input at (part_reads table part name input among)));
  once = part_once table part name;
  shaped = part_shaped table part name wide;
}

-- what drives a signal still drives it after a table is added; the new table drives its own
pub added_kept : (circuit : Circuit) (new : Table) (signal : List ℕ) (table : Table) → driver circuit.tables signal ≡ Some table → driver (with_added circuit new).tables signal ≡ Some table
unfolding with_added
added_kept circuit new signal table at =
    driver_append circuit.tables (new ∷ []) signal ∙ ap (λ (found : Option Table). option_or found (driver (new ∷ []) signal)) at

pub added_own : (circuit : Circuit) (new : Table) (name : List ℕ) → new.output ≡ name → has (outputs_of circuit.tables) name ≡ false → driver (with_added circuit new).tables name ≡ Some new
unfolding with_added
added_own circuit new name is free =
    subst (λ (x : List ℕ). driver (circuit.tables ++ new ∷ []) x ≡ Some new) is
    (driver_added_own circuit.tables new (ap (λ (x : List ℕ). has (outputs_of circuit.tables) x) is ∙ free))

pub part_extended : (circuit : Circuit) (table : Table) (part : List (List (Option Bool))) (name : List ℕ) → IsSound circuit → driver circuit.tables table.output ≡ Some table
    → HasWidth (length table.inputs) part → IsNewName circuit name → IsExtended circuit (with_added circuit (part_table table part name))
part_extended circuit table part name sound at wide new =
    let free = new_is_free circuit name new in
    added_extended circuit (part_table table part name) sound
    (ap is_word (part_output table part name) ∙ new_is_word circuit name new)
    (ap (λ (x : List ℕ). has (given circuit) x) (part_output table part name) ∙ free.0)
    (ap (λ (x : List ℕ). has (control_of circuit.timing) x) (part_output table part name) ∙ free.1)
    (part_fits circuit table part name sound at wide)

-- the tables of parts drive names
abbrev pub AreFound : List Table → Table → List (List (List (Option Bool))) → List (List ℕ) → Type 0
AreFound tables table [] [] = Unit {0}
AreFound tables table [] (name ∷ names) = ⊥
AreFound tables table (part ∷ parts) [] = ⊥
AreFound tables table (part ∷ parts) (name ∷ names) = (driver tables name ≡ Some (part_table table part name)) × AreFound tables table parts names

-- what holds after the tables of parts were added
pub record HoldsParts (table : Table) (parts : List (List (List (Option Bool)))) (names : List (List ℕ)) (circuit new : Circuit) : Type 0 where
  pub extended : IsExtended circuit new
  pub kept : (signal : List ℕ) (other : Table) → driver circuit.tables signal ≡ Some other → driver new.tables signal ≡ Some other
  pub found : AreFound new.tables table parts names
  pub apart : AllByRecursion (λ name. bytes_eq name table.output ≡ false) names

pub parts_hold : (table : Table) (parts : List (List (List (Option Bool)))) (circuit : Circuit) (names : List (List ℕ)) (new : Circuit) → IsSound circuit
    → driver circuit.tables table.output ≡ Some table → AllByRecursion (HasWidth (length table.inputs)) parts → ArePartsAdded table parts circuit names new → HoldsParts table parts names circuit new
parts_hold table [] circuit names new sound at wide added =
    subst (λ (list : List (List ℕ)). HoldsParts table [] list circuit new) (sym added.0)
    (subst (λ (made : Circuit). HoldsParts table [] [] circuit made) (sym added.1)
    (record { extended = extended_itself circuit sound; kept = λ signal other here. here; found = tt; apart = tt }))
parts_hold table (part ∷ parts) circuit [] new sound at wide added = absurd added
parts_hold table (part ∷ parts) circuit (name ∷ names) new sound at wide added =
    let made : Circuit = with_added circuit (part_table table part name) in
    let free : has (outputs_of circuit.tables) name ≡ false = new_is_no_table circuit name added.0 in
    let one : IsExtended circuit made = part_extended circuit table part name sound at wide.0 added.0 in
    let rest : HoldsParts table parts names made new =
    parts_hold table parts made names new one.change.sound (added_kept circuit (part_table table part name) table.output table at) wide.1 added.1 in
    record {
      extended = extended_through circuit made new one rest.extended;
      kept = λ signal other here. rest.kept signal other (added_kept circuit (part_table table part name) signal other here);
      found = (rest.kept name (part_table table part name) (added_own circuit (part_table table part name) name (part_output table part name) free), rest.found);
      apart = (
        name_not name table.output (λ same.
            false≢true (sym free ∙ subst (λ (x : List ℕ). has (outputs_of circuit.tables) x ≡ true) (sym same) (driver_output circuit.tables table.output table at))),
        rest.apart,
      );
    }

-- as many names as parts; the name of some part; and the values of the names
pub found_many : (tables : List Table) (table : Table) (parts : List (List (List (Option Bool)))) (names : List (List ℕ)) → AreFound tables table parts names → length names ≡ length parts
found_many tables table [] [] found = refl
found_many tables table [] (name ∷ names) found = absurd found
found_many tables table (part ∷ parts) [] found = absurd found
found_many tables table (part ∷ parts) (name ∷ names) found = ap suc (found_many tables table parts names found.1)

pub found_at : (tables : List Table) (table : Table) (parts : List (List (List (Option Bool)))) (names : List (List ℕ)) → AreFound tables table parts names → (name : List ℕ) → has names name ≡ true
    → (part : List (List (Option Bool))) × (driver tables name ≡ Some (part_table table part name))
found_at tables table [] [] found name h = absurd (false≢true h)
found_at tables table [] (first ∷ names) found name h = absurd found
found_at tables table (part ∷ parts) [] found name h = absurd found
found_at tables table (part ∷ parts) (first ∷ names) found name h =
    elim (or_cases (bytes_eq name first) (has names name) h) as (λ _. (part : List (List (Option Bool))) × (driver tables name ≡ Some (part_table table part name))) [
      | inl same ↦ (part, subst (λ (x : List ℕ). driver tables x ≡ Some (part_table table part x)) (sym (same_name name first same)) found.0)
      | inr other ↦ found_at tables table parts names found.1 name other
    ]

pub found_bits : (tables : List Table) (table : Table) (parts : List (List (List (Option Bool)))) (names : List (List ℕ)) (value : List ℕ → Bool) → AreFound tables table parts names
    → ((signal : List ℕ) (other : Table) → driver tables signal ≡ Some other → value signal ≡ driven_value (Some other) value) → map value names ≡ part_bits parts (map value table.inputs)
found_bits tables table [] [] value found obeys = refl
found_bits tables table [] (name ∷ names) value found obeys = absurd found
found_bits tables table (part ∷ parts) [] value found obeys = absurd found
found_bits tables table (part ∷ parts) (name ∷ names) value found obeys =
    ap₂ (λ (bit : Bool) (bits : List Bool). bit ∷ bits) (obeys name (part_table table part name) found.0 ∙ part_value table part name value)
    (found_bits tables table parts names value found.1 obeys)
