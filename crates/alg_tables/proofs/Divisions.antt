-- The value of a divided table, and what it reads.
use Rattle.std.proofs.Common.{◌≡◌, ◌⊎◌, ℕ, suc, ◌+◌, Bool, true, false, not, ◌&&◌, ◌||◌, if◌then◌else◌, Option, Some, None, List, [], ◌∷◌, ◌++◌, map, length, get_or, refl, sym, ap, ap₂, ◌∙◌, subst, inl, inr, arith}
use Rattle.std.proofs.Math.Bool.{and-false, and-true}
use Rattle.std.proofs.lemmas.Bool.{or_cases, or_left, or_right, false≢true}
use Rattle.std.proofs.lemmas.List.{length-map, length-append, map-append}
use Rattle.sis_base.specs.Rows.{HasWidth, agrees, matches, some_matches, phase_value, value_by_phase}
use Rattle.circuit_model.specs.Names.{all_different}
use Rattle.circuit_model.specs.Values.{table_value, driven_value}
use Rattle.circuit_model.specs.Soundness.{IsShaped}
use Rattle.circuit_model.specs.declared.circuit.Table.{Table}
use Rattle.cube_cover.proofs.Points.{value-append}
use Rattle.alg_div.specs.Cubes.{Has, times, products_by, products}
use Rattle.alg_div.specs.Quotient.{IsApart, IsQuotient, others}
use Rattle.alg_div.proofs.Laws.{parts-all, quotient-terms, quotient-wide, others-wide}
use Rattle.cover_names.specs.Literals.{NamedCover}
use Rattle.cover_names.specs.Cubes.{row_over, is_over, cover_value}
use Rattle.cover_names.proofs.Back.{all_apart, rows_over_worth}
use Rattle.net_core.specs.Tables.{places_of, characters_of, HasCharacters}
use Rattle.net_core.proofs.Rows.{all_places_back, width_of_characters}
use Rattle.circuit_tables.specs.Tidy.{IsWide, tidied}
use Rattle.circuit_tables.proofs.Tidied.{tidied_value, tidied_output, tidied_once, tidied_shaped}
use Rattle.alg_tables.specs.Dividing.{quotient, rejoined, has_no_cube, divided}
use Rattle.alg_tables.proofs.Taken.{characters_wide}
use Rattle.alg_tables.proofs.Quotients.{quotient_is}
use Rattle.cover_names.proofs.Worth.{same_bits}

-- ---- products at a point

and_grouped : (a m n : Bool) → (a && (m && n)) ≡ ((a && m) && n)
and_grouped true m n = refl
and_grouped false m n = refl

and_between : (a m n : Bool) → (a && (m && n)) ≡ (m && (a && n))
and_between true m n = refl
and_between false true n = refl
and_between false false n = refl

or_under : (a m n : Bool) → ((a && m) || (a && n)) ≡ (a && (m || n))
or_under true m n = refl
or_under false m n = refl

or_over : (a b m : Bool) → ((a && m) || (b && m)) ≡ ((a || b) && m)
or_over true b true = refl
or_over true b false = and-false b
or_over false b m = refl

-- no column has a literal of both cubes
abbrev pub AreApart : List (Option Bool) → List (Option Bool) → Type 0
AreApart cube row = (i : ℕ) (bit : Bool) → get_or row i None ≡ Some bit → get_or cube i None ≡ None

pub times_matches : (cube row : List (Option Bool)) (point : List Bool) → AreApart cube row → matches (times cube row) point ≡ (matches cube point && matches row point)
unfolding matches times
times_matches [] row point apart = refl
times_matches (x ∷ cube) [] point apart = sym (and-true (matches (x ∷ cube) point))
times_matches (x ∷ cube) (y ∷ row) [] apart = refl
times_matches (None ∷ cube) (y ∷ row) (bit ∷ point) apart =
    ap (λ (b : Bool). agrees y bit && b) (times_matches cube row point (λ i b h. apart (suc i) b h)) ∙ and_between (agrees y bit) (matches cube point) (matches row point)
times_matches (Some x ∷ cube) (None ∷ row) (bit ∷ point) apart =
    ap (λ (b : Bool). agrees (Some x) bit && b) (times_matches cube row point (λ i b h. apart (suc i) b h)) ∙ and_grouped (agrees (Some x) bit) (matches cube point) (matches row point)
times_matches (Some x ∷ cube) (Some y ∷ row) (bit ∷ point) apart = let e : Some x ≡ None = apart 0 y refl in absurd (cc)

pub products_by_match : (cube : List (Option Bool)) (d : List (List (Option Bool))) (point : List Bool) → IsApart cube d → some_matches (products_by cube d) point ≡ (matches cube point && some_matches d point)
unfolding some_matches products_by
products_by_match cube [] point apart = sym (and-false (matches cube point))
products_by_match cube (row ∷ d) point apart =
    ap₂ (λ (a b : Bool). a || b) (times_matches cube row point (λ i bit h. apart row (inl refl) i bit h)) (products_by_match cube d point (λ other m. apart other (inr m)))
    ∙ or_under (matches cube point) (matches row point) (some_matches d point)

pub products_match : (q d : List (List (Option Bool))) (point : List Bool) → ((cube : List (Option Bool)) → Has cube q → IsApart cube d)
    → some_matches (products q d) point ≡ (some_matches q point && some_matches d point)
unfolding some_matches products
products_match [] d point apart = refl
products_match (cube ∷ q) d point apart =
    value-append (products_by cube d) (products q d) point
    ∙ ap₂ (λ (a b : Bool). a || b) (products_by_match cube d point (apart cube (inl refl))) (products_match q d point (λ other m. apart other (inr m)))
    ∙ or_over (matches cube point) (some_matches q point) (some_matches d point)

-- ---- rows that match, by what is in a list

pub match_found : (rows : List (List (Option Bool))) (point : List Bool) → some_matches rows point ≡ true → (row : List (Option Bool)) × Has row rows × (matches row point ≡ true)
unfolding some_matches
match_found [] point h = absurd (false≢true h)
match_found (row ∷ rows) point h =
    elim (or_cases (matches row point) (some_matches rows point) h) as (λ _. (x : List (Option Bool)) × Has x (row ∷ rows) × (matches x point ≡ true)) [
      | inl e ↦ (row, inl refl, e)
      | inr n ↦ (let p = match_found rows point n in (p.0, inr p.1, p.2))
    ]

pub found_match : (rows : List (List (Option Bool))) (point : List Bool) (row : List (Option Bool)) → Has row rows → matches row point ≡ true → some_matches rows point ≡ true
unfolding some_matches
found_match [] point row m h = absurd m
found_match (first ∷ rows) point row m h =
    elim m as (λ _. some_matches (first ∷ rows) point ≡ true) [
      | inl e ↦ or_left (matches first point) (some_matches rows point) (ap (λ (r : List (Option Bool)). matches r point) (sym e) ∙ h)
      | inr n ↦ or_right (matches first point) (some_matches rows point) (found_match rows point row n h)
    ]

-- the products and the rows that are left match exactly if the divided rows do
pub parts_match : (width : ℕ) (f d q : List (List (Option Bool))) (point : List Bool) → IsQuotient width f d q
    → (some_matches (products q d) point || some_matches (others f (products q d)) point) ≡ some_matches f point
parts_match width f d q point h = same_bits _ _ to back
  where
    to : (some_matches (products q d) point || some_matches (others f (products q d)) point) ≡ true → some_matches f point ≡ true
    to e =
        let (row, m, here) = match_found (products q d ++ others f (products q d)) point (value-append (products q d) (others f (products q d)) point ∙ e) in
        found_match f point row ((parts-all width f d q (others f (products q d)) h refl row).1 (either row (products q d) (others f (products q d)) m)) here
      where
        either : (row : List (Option Bool)) (xs ys : List (List (Option Bool))) → Has row (xs ++ ys) → Has row xs ⊎ Has row ys
        either row [] ys m = inr m
        either row (x ∷ xs) ys m =
            elim m as (λ _. Has row (x ∷ xs) ⊎ Has row ys) [
              | inl e ↦ inl (inl e)
              | inr n ↦ elim (either row xs ys n) as (λ _. Has row (x ∷ xs) ⊎ Has row ys) [ inl a ↦ inl (inr a) | inr b ↦ inr b ]
            ]

    back : some_matches f point ≡ true → (some_matches (products q d) point || some_matches (others f (products q d)) point) ≡ true
    back e =
        let (row, m, here) = match_found f point e in
        elim ((parts-all width f d q (others f (products q d)) h refl row).0 m) as (λ _. (some_matches (products q d) point || some_matches (others f (products q d)) point) ≡ true) [
          | inl a ↦ or_left (some_matches (products q d) point) (some_matches (others f (products q d)) point) (found_match (products q d) point row a here)
          | inr b ↦ or_right (some_matches (products q d) point) (some_matches (others f (products q d)) point) (found_match (others f (products q d)) point row b here)
        ]

-- ---- rows with one more column

pub ended_matches : (row : List (Option Bool)) (point : List Bool) (place : Option Bool) (bit : Bool) → length row ≡ length point → matches (row ++ place ∷ []) (point ++ bit ∷ []) ≡ (matches row point && agrees place bit)
unfolding matches
ended_matches [] [] place bit e = and-true (agrees place bit)
ended_matches [] (b ∷ point) place bit e = absurd (omega (arith, e))
ended_matches (x ∷ row) [] place bit e = absurd (omega (arith, e))
ended_matches (x ∷ row) (b ∷ point) place bit e =
    ap (λ (c : Bool). agrees x b && c) (ended_matches row point place bit (omega (arith, e))) ∙ and_grouped (agrees x b) (matches row point) (agrees place bit)

pub all_ended_match : (rows : List (List (Option Bool))) (point : List Bool) (place : Option Bool) (bit : Bool) → HasWidth (length point) rows
    → some_matches (map (λ row. row ++ place ∷ []) rows) (point ++ bit ∷ []) ≡ (some_matches rows point && agrees place bit)
unfolding some_matches HasWidth
all_ended_match [] point place bit wide = refl
all_ended_match (row ∷ rows) point place bit wide =
    ap₂ (λ (a b : Bool). a || b) (ended_matches row point place bit wide.0) (all_ended_match rows point place bit wide.1)
    ∙ or_over (matches row point) (some_matches rows point) (agrees place bit)

pub ended_wide : (width : ℕ) (rows : List (List (Option Bool))) (place : Option Bool) → HasWidth width rows → HasWidth (suc width) (map (λ row. row ++ place ∷ []) rows)
unfolding HasWidth
ended_wide width [] place wide = tt
ended_wide width (row ∷ rows) place wide = (let e : length (row ++ place ∷ []) ≡ length row + 1 = length-append row (place ∷ []) in omega (arith, e, wide.0), ended_wide width rows place wide.1)

pub both_wide : (width : ℕ) (xs ys : List (List (Option Bool))) → HasWidth width xs → HasWidth width ys → HasWidth width (xs ++ ys)
unfolding HasWidth
both_wide width [] ys a b = b
both_wide width (x ∷ xs) ys a b = (a.0, both_wide width xs ys a.1 b)

-- ---- the rejoined rows

-- the quotient's cubes with the literal, and then the rows that are left
abbrev pub joined_rows : Bool → List (List (Option Bool)) → List (List (Option Bool)) → List (List (Option Bool)) → List (List (Option Bool))
joined_rows bit f d q = map (λ row. row ++ Some bit ∷ []) q ++ map (λ row. row ++ None ∷ []) (others f (products q d))

pub joined_match : (width : ℕ) (bit : Bool) (f d q : List (List (Option Bool))) (point : List Bool) (signal : Bool) → length point ≡ width → HasWidth width f → IsQuotient width f d q
    → agrees (Some bit) signal ≡ some_matches d point → some_matches (joined_rows bit f d q) (point ++ signal ∷ []) ≡ some_matches f point
joined_match width bit f d q point signal long wide is stands =
    value-append (map (λ row. row ++ Some bit ∷ []) q) (map (λ row. row ++ None ∷ []) (others f (products q d))) (point ++ signal ∷ [])
    ∙ ap₂ (λ (a b : Bool). a || b)
    (all_ended_match q point (Some bit) signal (subst (λ (n : ℕ). HasWidth n q) (sym long) (quotient-wide width f d q is))
    ∙ ap (λ (b : Bool). some_matches q point && b) stands ∙ sym (products_match q d point (λ cube m. (quotient-terms width f d q is cube m).apart)))
    (all_ended_match (others f (products q d)) point None signal (subst (λ (n : ℕ). HasWidth n (others f (products q d))) (sym long) (others-wide width f (products q d) wide))
    ∙ and-true (some_matches (others f (products q d)) point))
    ∙ parts_match width f d q point is

pub joined_wide : (width : ℕ) (bit : Bool) (f d q : List (List (Option Bool))) → HasWidth width f → IsQuotient width f d q → HasWidth (suc width) (joined_rows bit f d q)
joined_wide width bit f d q wide is =
    both_wide (suc width) (map (λ row. row ++ Some bit ∷ []) q) (map (λ row. row ++ None ∷ []) (others f (products q d)))
    (ended_wide width q (Some bit) (quotient-wide width f d q is)) (ended_wide width (others f (products q d)) None (others-wide width f (products q d) wide))

module _ (name : List ℕ) (bit : Bool) (cover : NamedCover) (table : Table) where
  abbrev pub rows_of : List (List (Option Bool))
  rows_of = map places_of table.rows

  abbrev pub divisor : List (List (Option Bool))
  divisor = map (row_over table.inputs) cover

  abbrev pub found : List (List (Option Bool))
  found = quotient (length table.inputs) rows_of divisor

  rejoined_is : IsWide table → IsQuotient (length table.inputs) rows_of divisor found
  rejoined_is wide = quotient_is (length table.inputs) rows_of divisor (width_of_characters (length table.inputs) table.rows wide)

  pub rejoined_value : (value : List ℕ → Bool) → IsWide table → all_apart cover ≡ true → is_over table.inputs cover ≡ true → agrees (Some bit) (value name) ≡ cover_value value cover
      → driven_value (Some (rejoined name bit table divisor found)) value ≡ driven_value (Some table) value
  unfolding table_value value_by_phase rejoined
  rejoined_value value wide apart over stands =
      ap (phase_value table.phase) (
      ap₂ some_matches (all_places_back (joined_rows bit rows_of divisor found)) (map-append value table.inputs (name ∷ []))
      ∙ joined_match (length table.inputs) bit rows_of divisor found (map value table.inputs) (value name) (length-map table.inputs value)
      (width_of_characters (length table.inputs) table.rows wide) (rejoined_is wide) (stands ∙ sym (rows_over_worth value table.inputs cover apart over)))

  pub rejoined_wide : IsWide table → IsWide (rejoined name bit table divisor found)
  unfolding rejoined
  rejoined_wide wide =
      let e : length (table.inputs ++ name ∷ []) ≡ length table.inputs + 1 = length-append table.inputs (name ∷ []) in
      let more : suc (length table.inputs) ≡ length (table.inputs ++ name ∷ []) = omega (arith, e) in
      subst (λ (n : ℕ). HasCharacters n (map characters_of (joined_rows bit rows_of divisor found))) more
      (characters_wide (suc (length table.inputs)) (joined_rows bit rows_of divisor found)
      (joined_wide (length table.inputs) bit rows_of divisor found (width_of_characters (length table.inputs) table.rows wide) (rejoined_is wide)))

  -- what holds of the table, and of the rejoined one in normal form if the table reads all that the
  -- cover reads, holds of the divided one
  pub divided_either : (P : Table → Type 0) → P table → (is_over table.inputs cover ≡ true → P (tidied (rejoined name bit table divisor found))) → P (divided name bit cover table)
  unfolding divided
  divided_either P stays turns = cases (is_over table.inputs cover) (has_no_cube found) turns
    where
      cases : (a b : Bool) → (a ≡ true → P (tidied (rejoined name bit table divisor found))) → P (if not a || b then table else tidied (rejoined name bit table divisor found))
      cases false b h = stays
      cases true true h = stays
      cases true false h = h refl

  pub divided_value : (value : List ℕ → Bool) → IsWide table → all_apart cover ≡ true → agrees (Some bit) (value name) ≡ cover_value value cover
      → driven_value (Some (divided name bit cover table)) value ≡ driven_value (Some table) value
  divided_value value wide apart stands =
      divided_either (λ (made : Table). driven_value (Some made) value ≡ driven_value (Some table) value) refl
      (λ over. tidied_value (rejoined name bit table divisor found) value ∙ rejoined_value value wide apart over stands)

  pub divided_output : (divided name bit cover table).output ≡ table.output
  unfolding rejoined
  divided_output = divided_either (λ (made : Table). made.output ≡ table.output) refl (λ over. tidied_output (rejoined name bit table divisor found))

  pub divided_shaped : IsShaped table → IsShaped (divided name bit cover table)
  divided_shaped shaped = divided_either IsShaped shaped (λ over. tidied_shaped (rejoined name bit table divisor found) (rejoined_wide shaped.0))

  pub divided_once : all_different table.inputs ≡ true → all_different (divided name bit cover table).inputs ≡ true
  divided_once once = divided_either (λ (made : Table). all_different made.inputs ≡ true) once (λ over. tidied_once (rejoined name bit table divisor found))
