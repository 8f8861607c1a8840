-- A row whose characters are merged into columns matches where the row matches the bits of those
-- columns.
use Rattle.std.specs.Prelude.{◌≡◌, ℕ, zero, suc, ◌<◌, ◌≤◌, Bool, true, false, ◌&&◌, ◌||◌, Option, Some, None, List, [], ◌∷◌, map, length, bytes_eq}
use Rattle.std.specs.List.{AllByRecursion, filter_map, cons_option, position_or_len}
use Rattle.std.specs.Option.{option_map_or}
use Rattle.std.proofs.Common.{refl, sym, subst, ◌∙◌, ap, arith, get_or, set}
use Rattle.std.proofs.lemmas.List.{length-set, length-map}
use Rattle.sis_base.specs.Rows.{agrees, matches, some_matches}
use Rattle.circuit_model.specs.Names.{has}
use Rattle.circuit_model.specs.Values.{literal_of}
use Rattle.circuit_model.specs.declared.circuit.Tri.{Tri}
use Rattle.circuit_model.specs.declared.circuit.Tri.TheVariants.{Zero, One, Free}
use Rattle.circuit_tables.specs.Folding.{merged, each_once, folded_rows}
use Rattle.circuit_tables.specs.Listing.{places_of, merge_row, dashes_of, merged_rows}
use Rattle.circuit_tables.proofs.Buffer.{all_there, rows_merged}
use Rattle.circuit_tables.proofs.Once.{has-each_once, read_place, place_within}
use Rattle.circuit_model.proofs.Levels.{no_point}

-- the row as rows are matched
unfoldable pub fits : List Tri → List Bool → Bool
fits row point = matches (map literal_of row) point

-- two characters together agree with a bit where both do
both_agree : (a b : Tri) (bit rest : Bool)
    → ((agrees (literal_of a) bit && rest) && agrees (literal_of b) bit) ≡ option_map_or (λ u. agrees (literal_of u) bit && rest) (merged a b) false
both_agree Free b bit rest = turn rest (agrees (literal_of b) bit)
  where
    turn : (x y : Bool) → (x && y) ≡ (y && x)
    turn true true = refl
    turn true false = refl
    turn false true = refl
    turn false false = refl
both_agree Zero Zero true rest = refl
both_agree Zero Zero false true = refl
both_agree Zero Zero false false = refl
both_agree Zero One true rest = refl
both_agree Zero One false true = refl
both_agree Zero One false false = refl
both_agree Zero Free true rest = refl
both_agree Zero Free false true = refl
both_agree Zero Free false false = refl
both_agree One Zero true true = refl
both_agree One Zero true false = refl
both_agree One Zero false rest = refl
both_agree One One true true = refl
both_agree One One true false = refl
both_agree One One false rest = refl
both_agree One Free true true = refl
both_agree One Free true false = refl
both_agree One Free false rest = refl

-- a character set in a column
put_agrees : (out : List Tri) (point : List Bool) (place : ℕ) (character : Tri) → place < length out → length out ≡ length point
    → (fits out point && agrees (literal_of character) (get_or point place false))
    ≡ option_map_or (λ u. fits (set out place u) point) (merged (get_or out place Free) character) false
unfolding fits matches
put_agrees [] point place character h e = absurd (omega arith)
put_agrees (a ∷ out) [] place character h e = absurd (omega arith)
put_agrees (a ∷ out) (bit ∷ point) zero character h e = both_agree a character bit (matches (map literal_of out) point)
put_agrees (a ∷ out) (bit ∷ point) (suc place) character h e =
    ap (λ b. b) (assoc (agrees (literal_of a) bit) (matches (map literal_of out) point) (agrees (literal_of character) (get_or point place false)))
    ∙ (ap (λ b. agrees (literal_of a) bit && b) (put_agrees out point place character (omega arith) (omega arith))
    ∙ inside (agrees (literal_of a) bit) (merged (get_or out place Free) character))
  where
    assoc : (x y z : Bool) → ((x && y) && z) ≡ (x && (y && z))
    assoc true y z = refl
    assoc false y z = refl

    inside : (x : Bool) (both : Option Tri)
        → (x && option_map_or (λ u. matches (map literal_of (set out place u)) point) both false)
        ≡ option_map_or (λ u. x && matches (map literal_of (set out place u)) point) both false
    inside true both = refl
    inside false None = refl
    inside false (Some u) = refl

-- the whole row merged into columns
pub merge_agrees : (places : List ℕ) (row out : List Tri) (point : List Bool) → AllByRecursion (λ place. place < length point) places → length out ≡ length point
    → (fits out point && fits row (map (λ place. get_or point place false) places))
    ≡ option_map_or (λ made. fits made point) (merge_row out places row) false
unfolding merge_row fits matches
merge_agrees [] row out point h e = rw (no_point (map literal_of row)) (and_true (matches (map literal_of out) point))
  where
    and_true : (b : Bool) → (b && true) ≡ b
    and_true true = refl
    and_true false = refl
merge_agrees (place ∷ places) [] out point h e = and_true (matches (map literal_of out) point)
  where
    and_true : (b : Bool) → (b && true) ≡ b
    and_true true = refl
    and_true false = refl
merge_agrees (place ∷ places) (character ∷ row) out point h e =
    cases (merged (get_or out place Free) character) (put_agrees out point place character (omega (arith, h.0, e)) e)
    (λ u. merge_agrees places row (set out place u) point h.1 (length-set out place u ∙ e))
  where
    cases : (both : Option Tri)
        → (matches (map literal_of out) point && agrees (literal_of character) (get_or point place false)) ≡ option_map_or (λ u. matches (map literal_of (set out place u)) point) both false
        → ((u : Tri) → (matches (map literal_of (set out place u)) point && matches (map literal_of row) (map (λ (other : ℕ). get_or point other false) places))
        ≡ option_map_or (λ made. matches (map literal_of made) point) (merge_row (set out place u) places row) false)
        → (matches (map literal_of out) point && (agrees (literal_of character) (get_or point place false) && matches (map literal_of row) (map (λ (other : ℕ). get_or point other false) places)))
        ≡ option_map_or (λ made. matches (map literal_of made) point) (option_map_or (λ u. merge_row (set out place u) places row) both None) false
    cases None p more = assoc (matches (map literal_of out) point) (agrees (literal_of character) (get_or point place false)) (matches (map literal_of row) (map (λ (other : ℕ). get_or point other false) places)) ∙ rw p refl
      where
        assoc : (x y z : Bool) → (x && (y && z)) ≡ ((x && y) && z)
        assoc true y z = refl
        assoc false y z = refl
    cases (Some u) p more = assoc (matches (map literal_of out) point) (agrees (literal_of character) (get_or point place false)) (matches (map literal_of row) (map (λ (other : ℕ). get_or point other false) places)) ∙ rw p (more u)
      where
        assoc : (x y z : Bool) → (x && (y && z)) ≡ ((x && y) && z)
        assoc true y z = refl
        assoc false y z = refl

dashes_fit : (names : List (List ℕ)) (point : List Bool) → fits (dashes_of names) point ≡ true
unfolding fits matches
dashes_fit [] point = refl
dashes_fit (name ∷ names) [] = refl
dashes_fit (name ∷ names) (bit ∷ point) = dashes_fit names point

-- some row matches before and after
pub rows_agree : (names : List (List ℕ)) (places : List ℕ) (rows : List (List Tri)) (point : List Bool)
    → AllByRecursion (λ place. place < length point) places → length names ≡ length point
    → some_matches (map (map literal_of) (filter_map (merge_row (dashes_of names) places) rows)) point
    ≡ some_matches (map (map literal_of) rows) (map (λ place. get_or point place false) places)
unfolding some_matches fits
rows_agree names places [] point h e = refl
rows_agree names places (row ∷ rows) point h e =
    cases (merge_row (dashes_of names) places row)
    (sym (ap (λ b. b && matches (map literal_of row) (map (λ place. get_or point place false) places)) (dashes_fit names point))
    ∙ merge_agrees places row (dashes_of names) point h (length-map names (λ (name : List ℕ). Free) ∙ e))
    (rows_agree names places rows point h e)
  where
    cases : (made : Option (List Tri))
        → matches (map literal_of row) (map (λ (place : ℕ). get_or point place false) places) ≡ option_map_or (λ r. matches (map literal_of r) point) made false
        → some_matches (map (map literal_of) (filter_map (merge_row (dashes_of names) places) rows)) point
        ≡ some_matches (map (map literal_of) rows) (map (λ (place : ℕ). get_or point place false) places)
        → some_matches (map (map literal_of) (cons_option made (filter_map (merge_row (dashes_of names) places) rows))) point
        ≡ (matches (map literal_of row) (map (λ (place : ℕ). get_or point place false) places)
        || some_matches (map (map literal_of) rows) (map (λ (place : ℕ). get_or point place false) places))
    cases None p rest = rw p rest
    cases (Some made) p rest = rw (p, rest) refl

-- the columns of inputs
places_within : (inputs names : List (List ℕ)) → AllByRecursion (λ name. has names name ≡ true) inputs
    → AllByRecursion (λ place. place < length names) (map (λ name. position_or_len (bytes_eq name) names) inputs)
places_within [] names h = tt
places_within (name ∷ inputs) names h = (place_within names name h.0, places_within inputs names h.1)

places_read : (inputs names : List (List ℕ)) (value : List ℕ → Bool) → AllByRecursion (λ name. has names name ≡ true) inputs
    → map (λ place. get_or (map value names) place false) (map (λ name. position_or_len (bytes_eq name) names) inputs) ≡ map value inputs
places_read [] names value h = refl
places_read (name ∷ inputs) names value h = rw (read_place names value name h.0, places_read inputs names value h.1) refl

merged_rows_agree : (inputs : List (List ℕ)) (rows : List (List Tri)) (value : List ℕ → Bool)
    → some_matches (map (map literal_of) (merged_rows inputs rows)) (map value (each_once inputs)) ≡ some_matches (map (map literal_of) rows) (map value inputs)
unfolding merged_rows places_of
merged_rows_agree inputs rows value =
    let there : AllByRecursion (λ name. has (each_once inputs) name ≡ true) inputs = all_there inputs (each_once inputs) (λ name h. has-each_once inputs name ∙ h) in
    let count : length (map value (each_once inputs)) ≡ length (each_once inputs) = length-map (each_once inputs) value in
    rows_agree (each_once inputs) (map (λ name. position_or_len (bytes_eq name) (each_once inputs)) inputs) rows (map value (each_once inputs))
    (subst (λ (n : ℕ). AllByRecursion (λ place. place < n) (map (λ name. position_or_len (bytes_eq name) (each_once inputs)) inputs)) (sym count) (places_within inputs (each_once inputs) there))
    (sym count)
    ∙ ap (some_matches (map (map literal_of) rows)) (places_read inputs (each_once inputs) value there)

pub folded_rows_agree : (inputs : List (List ℕ)) (rows : List (List Tri)) (value : List ℕ → Bool)
    → some_matches (map (map literal_of) (folded_rows inputs rows)) (map value (each_once inputs)) ≡ some_matches (map (map literal_of) rows) (map value inputs)
folded_rows_agree inputs rows value = rw (← rows_merged inputs rows) (merged_rows_agree inputs rows value)

-- widths and counts

width_kept : (places : List ℕ) (row out made : List Tri) → merge_row out places row ≡ Some made → length made ≡ length out
unfolding merge_row
width_kept [] row out made e = ap length (sym (inside e))
  where
    inside : Some out ≡ Some made → out ≡ made
    inside d = cc
width_kept (place ∷ places) [] out made e = ap length (sym (inside e))
  where
    inside : Some out ≡ Some made → out ≡ made
    inside d = cc
width_kept (place ∷ places) (character ∷ row) out made e =
    cases (merged (get_or out place Free) character) (λ u d. width_kept places row (set out place u) made d ∙ length-set out place u) e
  where
    cases : (both : Option Tri) → ((u : Tri) → merge_row (set out place u) places row ≡ Some made → length made ≡ length out)
        → option_map_or (λ u. merge_row (set out place u) places row) both None ≡ Some made → length made ≡ length out
    cases None more d = absurd (let no : None ≡ Some made = d in cc)
    cases (Some u) more d = more u d

widths_merged : (inputs : List (List ℕ)) (rows : List (List Tri)) → AllByRecursion (λ (row : List Tri). length row ≡ length (each_once inputs)) (merged_rows inputs rows)
unfolding merged_rows
widths_merged inputs [] = tt
widths_merged inputs (row ∷ rows) =
    cases (merge_row (dashes_of (each_once inputs)) (places_of inputs) row) refl (widths_merged inputs rows)
  where
    cases : (made : Option (List Tri)) → merge_row (dashes_of (each_once inputs)) (places_of inputs) row ≡ made
        → AllByRecursion (λ (other : List Tri). length other ≡ length (each_once inputs)) (filter_map (merge_row (dashes_of (each_once inputs)) (places_of inputs)) rows)
        → AllByRecursion (λ (other : List Tri). length other ≡ length (each_once inputs)) (cons_option made (filter_map (merge_row (dashes_of (each_once inputs)) (places_of inputs)) rows))
    cases None e rest = rest
    cases (Some made) e rest = (width_kept (places_of inputs) row (dashes_of (each_once inputs)) made e ∙ length-map (each_once inputs) (λ (name : List ℕ). Free), rest)

fewer_merged : (inputs : List (List ℕ)) (rows : List (List Tri)) → length (merged_rows inputs rows) ≤ length rows
unfolding merged_rows
fewer_merged inputs [] = omega arith
fewer_merged inputs (row ∷ rows) = cases (merge_row (dashes_of (each_once inputs)) (places_of inputs) row) (fewer_merged inputs rows)
  where
    cases : (made : Option (List Tri)) → length (filter_map (merge_row (dashes_of (each_once inputs)) (places_of inputs)) rows) ≤ length rows
        → length (cons_option made (filter_map (merge_row (dashes_of (each_once inputs)) (places_of inputs)) rows)) ≤ length (row ∷ rows)
    cases None rest = omega arith
    cases (Some made) rest = omega arith

pub widths_folded : (inputs : List (List ℕ)) (rows : List (List Tri)) → AllByRecursion (λ (row : List Tri). length row ≡ length (each_once inputs)) (folded_rows inputs rows)
widths_folded inputs rows = subst (λ made. AllByRecursion (λ (row : List Tri). length row ≡ length (each_once inputs)) made) (rows_merged inputs rows) (widths_merged inputs rows)

pub fewer_rows : (inputs : List (List ℕ)) (rows : List (List Tri)) → length (folded_rows inputs rows) ≤ length rows
fewer_rows inputs rows = rw (← rows_merged inputs rows) (fewer_merged inputs rows)
