-- The table of a cover: it fits if its names are signals, and has the cover's value; and it is
-- split off the tables that are divided by it.
use Rattle.std.proofs.Common.{◌≡◌, ◌⊎◌, ℕ, Bool, true, false, Option, Some, List, [], ◌∷◌, map, length, bytes_eq, nat_cmp, refl, sym, ap, ◌∙◌, subst, inl, inr}
use Rattle.std.specs.List.{list_all, AllByRecursion}
use Rattle.std.specs.List.Sorted.{IsStrictlySortedBy}
use Rattle.std.specs.Cmp.Lexicographic.{slice_cmp}
use Rattle.std.proofs.lemmas.Bool.{and_parts, and_from, or_cases, false≢true}
use Rattle.sis_base.specs.Rows.{agrees, some_matches, value_by_phase}
use Rattle.circuit_model.specs.Names.{has, all_different}
use Rattle.circuit_model.specs.Values.{table_value, driven_value}
use Rattle.circuit_model.specs.Soundness.{given, IsShaped}
use Rattle.circuit_model.specs.declared.circuit.Table.{Table}
use Rattle.circuit_model.specs.declared.circuit.Circuit.{Circuit}
use Rattle.circuit_laws.specs.Fitting.{IsFitting}
use Rattle.circuit_laws.proofs.Names.{same_name, all_has, all_from_has, has_head, has_tail, has_front, has_back, has_either, has_not, different_cons, different_none}
use Rattle.cover_names.specs.Literals.{Cube, NamedCover, sorted}
use Rattle.cover_names.specs.Cubes.{row_over, is_over, names_in, cover_value}
use Rattle.cover_names.specs.declared.literal.Literal.{Literal}
use Rattle.cover_names.proofs.Back.{all_apart, all_apart_in, rows_over_worth}
use Rattle.cover_names.proofs.Members.{Has}
use Rattle.cover_names.proofs.Orders.{not_below_itself}
use Rattle.cover_names.proofs.Sorting.{rises_head, rises_tail, sorted_rises}
use Rattle.cover_names.proofs.Worth.{names_of, any_sorted}
use Rattle.net_core.proofs.Rows.{all_places_back}
use Rattle.circuit_tables.proofs.Tidied.{tidied_reads}
use Rattle.circuit_laws.specs.Splits.{IsOver, IsSplit}
use Rattle.alg_tables.specs.Dividing.{rejoined, divided, sorted_names, cover_table}
use Rattle.alg_tables.proofs.Taken.{characters_wide}
use Rattle.alg_tables.proofs.Divisions.{divisor, found, divided_either, divided_value, divided_output, divided_shaped, divided_once}
use Rattle.alg_tables.proofs.Divided.{rows_wide, name_order}

-- ---- the names of a cover

cube_names : (names : List (List ℕ)) (cube : Cube) (name : List ℕ) → list_all (λ (literal : Literal). has names literal.name) cube ≡ true → has (names_of cube) name ≡ true → has names name ≡ true
cube_names names [] name over h = absurd (false≢true h)
cube_names names (literal ∷ cube) name over h =
    let parts = and_parts (has names literal.name) (list_all (λ (literal : Literal). has names literal.name) cube) over in
    elim (or_cases (bytes_eq name literal.name) (has (names_of cube) name) h) as (λ _. has names name ≡ true) [
      | inl e ↦ subst (λ (n : List ℕ). has names n ≡ true) (sym (same_name name literal.name e)) parts.0
      | inr m ↦ cube_names names cube name parts.1 m
    ]

-- names that a cover is over include those of its literals
pub over_names : (names : List (List ℕ)) (cover : NamedCover) (name : List ℕ) → is_over names cover ≡ true → has (names_in cover) name ≡ true → has names name ≡ true
over_names names [] name over h = absurd (false≢true h)
over_names names (cube ∷ cover) name over h =
    let parts = and_parts (list_all (λ (literal : Literal). has names literal.name) cube) (is_over names cover) over in
    elim (has_either (names_of cube) (names_in cover) name h) as (λ _. has names name ≡ true) [
      | inl m ↦ cube_names names cube name parts.0 m
      | inr m ↦ over_names names cover name parts.1 m
    ]

names_cube : (names : List (List ℕ)) (cube : Cube) → ((name : List ℕ) → has (names_of cube) name ≡ true → has names name ≡ true) → list_all (λ (literal : Literal). has names literal.name) cube ≡ true
names_cube names [] h = refl
names_cube names (literal ∷ cube) h = and_from _ _ (h literal.name (has_head literal.name (names_of cube))) (names_cube names cube (λ name m. h name (has_tail literal.name (names_of cube) name m)))

pub names_over : (names : List (List ℕ)) (cover : NamedCover) → ((name : List ℕ) → has (names_in cover) name ≡ true → has names name ≡ true) → is_over names cover ≡ true
names_over names [] h = refl
names_over names (cube ∷ cover) h =
    and_from _ _ (names_cube names cube (λ name m. h name (has_front (names_of cube) (names_in cover) name m))) (names_over names cover (λ name m. h name (has_back (names_of cube) (names_in cover) name m)))

pub sorted_has_name : (names : List (List ℕ)) (name : List ℕ) → has (sorted (slice_cmp nat_cmp) names) name ≡ has names name
sorted_has_name names name = any_sorted name_order (bytes_eq name) names

has_item : (names : List (List ℕ)) (name : List ℕ) → has names name ≡ true → Has name names
has_item [] name h = absurd (false≢true h)
has_item (first ∷ names) name h =
    elim (or_cases (bytes_eq name first) (has names name) h) as (λ _. Has name (first ∷ names)) [ inl e ↦ inl (same_name name first e) | inr m ↦ inr (has_item names name m) ]

-- names that rise are different
rising_once : (names : List (List ℕ)) → IsStrictlySortedBy (slice_cmp nat_cmp) names → all_different names ≡ true
rising_once [] h = different_none
rising_once (name ∷ names) h =
    different_cons name names (has_not names name (λ m. not_below_itself name_order.total name (rises_head name_order name names h name (has_item names name m))))
    (rising_once names (rises_tail name_order name names h))

pub sorted_once : (names : List (List ℕ)) → all_different (sorted (slice_cmp nat_cmp) names) ≡ true
sorted_once names = rising_once (sorted (slice_cmp nat_cmp) names) (sorted_rises name_order names)

-- ---- the table of a cover

module _ (name : List ℕ) (cover : NamedCover) where
  cover_over_names : is_over (sorted_names cover) cover ≡ true
  cover_over_names = names_over (sorted_names cover) cover (λ other m. sorted_has_name (names_in cover) other ∙ m)

  pub cover_table_value : (value : List ℕ → Bool) → all_apart cover ≡ true → driven_value (Some (cover_table name cover)) value ≡ cover_value value cover
  unfolding table_value value_by_phase cover_table
  cover_table_value value apart =
      ap (λ (rows : List (List (Option Bool))). some_matches rows (map value (sorted_names cover))) (all_places_back (map (row_over (sorted_names cover)) cover))
      ∙ rows_over_worth value (sorted_names cover) cover apart cover_over_names

  pub cover_table_shaped : IsShaped (cover_table name cover)
  unfolding cover_table
  cover_table_shaped = (characters_wide (length (sorted_names cover)) (map (row_over (sorted_names cover)) cover) (rows_wide (sorted_names cover) cover), λ _. refl)

  pub cover_table_reads : (input : List ℕ) → has (cover_table name cover).inputs input ≡ has (names_in cover) input
  unfolding cover_table
  cover_table_reads input = sorted_has_name (names_in cover) input

  pub cover_table_once : all_different (cover_table name cover).inputs ≡ true
  unfolding cover_table
  cover_table_once = sorted_once (names_in cover)

  pub cover_table_output : (cover_table name cover).output ≡ name
  unfolding cover_table
  cover_table_output = refl

  pub cover_table_fits : (circuit : Circuit) → ((input : List ℕ) → has (names_in cover) input ≡ true → has (given circuit) input ≡ true) → IsFitting circuit (cover_table name cover)
  cover_table_fits circuit live = record {
    live = all_from_has (λ input. has (given circuit) input ≡ true) (cover_table name cover).inputs (λ input m. live input (sym (cover_table_reads input) ∙ m));
    once = cover_table_once;
    shaped = cover_table_shaped;
  }

-- ---- what a divided table reads

pub divided_reads : (name : List ℕ) (bit : Bool) (cover : NamedCover) (table : Table) (other : List ℕ) → has (divided name bit cover table).inputs other ≡ true
    → (has table.inputs other ≡ true) ⊎ ((other ≡ name) × ((input : List ℕ) → has (names_in cover) input ≡ true → has table.inputs input ≡ true))
unfolding rejoined
divided_reads name bit cover table other =
    divided_either name bit cover table
    (λ (made : Table). has made.inputs other ≡ true → (has table.inputs other ≡ true) ⊎ ((other ≡ name) × ((input : List ℕ) → has (names_in cover) input ≡ true → has table.inputs input ≡ true))) (λ m. inl m)
    (λ over m. elim (has_either table.inputs (name ∷ []) other (tidied_reads (rejoined name bit table (divisor name bit cover table) (found name bit cover table)) other m))
    as (λ _. (has table.inputs other ≡ true) ⊎ ((other ≡ name) × ((input : List ℕ) → has (names_in cover) input ≡ true → has table.inputs input ≡ true))) [
      | inl old ↦ inl old
      | inr new ↦ elim (or_cases (bytes_eq other name) false new) as (λ _. (has table.inputs other ≡ true) ⊎ ((other ≡ name) × ((input : List ℕ) → has (names_in cover) input ≡ true → has table.inputs input ≡ true))) [
        | inl e ↦ inr (same_name other name e, λ input k. over_names table.inputs cover input over k)
        | inr k ↦ absurd (false≢true k)
      ]
    ])

-- a divided table fits if the table does and the signal is one
pub divided_fits : (circuit : Circuit) (name : List ℕ) (bit : Bool) (cover : NamedCover) (table : Table) → IsFitting circuit table → has (given circuit) name ≡ true → IsFitting circuit (divided name bit cover table)
divided_fits circuit name bit cover table fits driven = record {
  live = all_from_has (λ input. has (given circuit) input ≡ true) (divided name bit cover table).inputs (λ input m.
      elim (divided_reads name bit cover table input m) as (λ _. has (given circuit) input ≡ true) [
        | inl old ↦ all_has (λ other. has (given circuit) other ≡ true) table.inputs fits.live input old
        | inr new ↦ subst (λ (n : List ℕ). has (given circuit) n ≡ true) (sym new.0) driven
      ]);
  once = divided_once name bit cover table fits.once;
  shaped = divided_shaped name bit cover table fits.shaped;
}

-- ---- the split

pub divided_over : (name : List ℕ) (cover : NamedCover) (table : Table) → all_apart cover ≡ true → IsShaped table → IsOver (cover_table name cover) table (divided name true cover table)
divided_over name cover table apart shaped = record {
  shaped = divided_shaped name true cover table;
  once = divided_once name true cover table;
  reads = λ other m.
      elim (divided_reads name true cover table other m)
      as (λ _. (has table.inputs other ≡ true) ⊎ ((other ≡ (cover_table name cover).output) × ((input : List ℕ) → has (cover_table name cover).inputs input ≡ true → has table.inputs input ≡ true))) [
        | inl old ↦ inl old
        | inr new ↦ inr (new.0 ∙ sym (cover_table_output name cover), λ input k. new.1 input (sym (cover_table_reads name cover input) ∙ k))
      ];
  value = λ value stands.
      divided_value name true cover table value shaped.0 apart (ap value (sym (cover_table_output name cover)) ∙ stands ∙ cover_table_value name cover value apart);
}

pub divided_split : (circuit : Circuit) (name : List ℕ) (cover : NamedCover) → all_apart cover ≡ true → AllByRecursion IsShaped circuit.tables → IsSplit circuit (cover_table name cover) (divided name true cover)
divided_split circuit name cover apart shaped = record { outputs = λ table. divided_output name true cover table; tables = each circuit.tables shaped }
  where
    each : (tables : List Table) → AllByRecursion IsShaped tables → AllByRecursion (λ (table : Table). IsOver (cover_table name cover) table (divided name true cover table)) tables
    each [] h = tt
    each (table ∷ tables) h = (divided_over name cover table apart h.0, each tables h.1)

-- ---- the laws as clauses say them

-- in each cube of a cover the names are different, as a clause says it
abbrev pub are_apart : NamedCover → Bool
are_apart cover = list_all (λ (cube : Cube). all_different (names_in (cube ∷ []))) cover

pub law_value : (name : List ℕ) (bit : Bool) (cover : NamedCover) (table : Table) (value : List ℕ → Bool) → IsShaped table → are_apart cover ≡ true → agrees (Some bit) (value name) ≡ cover_value value cover
    → driven_value (Some (divided name bit cover table)) value ≡ driven_value (Some table) value
law_value name bit cover table value shaped apart stands = divided_value name bit cover table value shaped.0 (all_apart_in cover ∙ apart) stands

pub law_cover : (name : List ℕ) (cover : NamedCover) (value : List ℕ → Bool) → are_apart cover ≡ true → driven_value (Some (cover_table name cover)) value ≡ cover_value value cover
law_cover name cover value apart = cover_table_value name cover value (all_apart_in cover ∙ apart)

pub law_split : (circuit : Circuit) (name : List ℕ) (cover : NamedCover) → are_apart cover ≡ true → AllByRecursion IsShaped circuit.tables → IsSplit circuit (cover_table name cover) (divided name true cover)
law_split circuit name cover apart shaped = divided_split circuit name cover (all_apart_in cover ∙ apart) shaped
