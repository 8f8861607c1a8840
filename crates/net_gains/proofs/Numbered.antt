-- The rising numbers of a table's rows are those of its cubes, and as different as its rows.
use Rattle.std.proofs.Common.{◌≡◌, ◌⊎◌, ℕ, Bool, true, false, not, ◌&&◌, ◌||◌, Option, Some, None, List, [], ◌∷◌, ◌++◌, map, length, bytes_eq, nat_cmp, refl, sym, ap, ap₂, ◌∙◌, subst, append_assoc, append-nil, inl, inr}
use Rattle.std.specs.List.{AllByRecursion, list_all, list_any}
use Rattle.std.proofs.lemmas.Bool.{and_parts, and_from}
use Rattle.std.proofs.lemmas.Slice.Eq.{bytes_eq-Decides}
use Rattle.sis_base.specs.Rows.{HasWidth}
use Rattle.circuit_model.specs.Names.{has, all_different}
use Rattle.circuit_model.specs.declared.circuit.Tri.{Tri}
use Rattle.net_gains.specs.Totals.{AreCubes}
use Rattle.cover_names.specs.Literals.{Cube, literal_cmp, sorted, sorted_cube}
use Rattle.cover_names.specs.Cubes.{cube_over, row_over, is_over}
use Rattle.cover_names.proofs.Back.{sorted_row_back}
use Rattle.cover_names.proofs.Orders.{cube_order}
use Rattle.cover_names.proofs.Over.{map_twice}
use Rattle.cover_names.proofs.Sorting.{sorted_rises}
use Rattle.net_core.specs.Tables.{named, IsOverInputs, characters_of, places_of}
use Rattle.net_core.specs.declared.table.CoverTable.{CoverTable}
use Rattle.net_core.proofs.Rows.{characters_back, places_back}
use Rattle.net_gains.specs.Codes.{AreRising, code_of, codes_of, signal_of, is_known}
use Rattle.net_gains.specs.declared.codes.Signal.{Signal}
use Rattle.net_gains.proofs.Carried.{map_sorted, all_sorted, same_items}
use Rattle.net_gains.proofs.Coded.{number_order, numbers_order, KnownCube, Known, known_cube, literals_keep, cubes_keep}
use Rattle.circuit_tables.specs.Tidy.{same_row, rows_differ}
use Rattle.circuit_tables.proofs.Tidied.{row_same, row_itself}
use Rattle.net_gains.specs.Kept.{is_countable}
use Rattle.net_gains.specs.Numbers.{numbers_from, rising_from, AreNumbers}

-- ---- numbers column by column

from_cons : (signal : Signal) (signals : List Signal) (place : Option Bool) (row : List (Option Bool))
    → numbers_from (signal ∷ signals) (place ∷ row) ≡ numbers_from (signal ∷ []) (place ∷ []) ++ numbers_from signals row
unfolding numbers_from
from_cons signal signals None row = refl
from_cons signal signals (Some bit) row = refl

from_none : (signals : List Signal) (row : List (Option Bool)) → (signals ≡ []) ⊎ (row ≡ []) → numbers_from signals row ≡ []
unfolding numbers_from
from_none [] row h = refl
from_none (signal ∷ signals) [] h = refl
from_none (signal ∷ signals) (place ∷ row) (inl e) = absurd cc
from_none (signal ∷ signals) (place ∷ row) (inr e) = absurd cc

-- a loop that appends the numbers of signals and columns
pub from_more : (signal : Signal) (place : Option Bool) (signals rest : List Signal) (row left : List (Option Bool)) (before after whole : List ℕ)
    → after ≡ before ++ numbers_from (signal ∷ []) (place ∷ []) → signals ≡ signal ∷ rest → row ≡ place ∷ left → before ++ numbers_from signals row ≡ whole → after ++ numbers_from rest left ≡ whole
from_more signal place signals rest row left before after whole put first second h =
    ap (λ (xs : List ℕ). xs ++ numbers_from rest left) put
    ∙ append_assoc before (numbers_from (signal ∷ []) (place ∷ [])) (numbers_from rest left)
    ∙ ap (λ (xs : List ℕ). before ++ xs) (sym (from_cons signal rest place left) ∙ sym (ap₂ numbers_from first second))
    ∙ h

pub from_all : (signals : List Signal) (row : List (Option Bool)) (made whole : List ℕ) → (signals ≡ []) ⊎ (row ≡ []) → made ++ numbers_from signals row ≡ whole → made ≡ whole
from_all signals row made whole h e = sym (append-nil made) ∙ ap (λ (xs : List ℕ). made ++ xs) (sym (from_none signals row h)) ∙ e

-- ---- the numbers of a row are those of its cube

from_known : (names inputs : List (List ℕ)) (row : List (Option Bool)) → numbers_from (map (signal_of names) inputs) row ≡ codes_of names (cube_over inputs row)
unfolding numbers_from cube_over
from_known names [] row = refl
from_known names (input ∷ inputs) [] = refl
from_known names (input ∷ inputs) (None ∷ row) = from_known names inputs row
from_known names (input ∷ inputs) (Some true ∷ row) = ap (λ (ns : List ℕ). code_of names (record { name = input; bit = true }) ∷ ns) (from_known names inputs row)
from_known names (input ∷ inputs) (Some false ∷ row) = ap (λ (ns : List ℕ). code_of names (record { name = input; bit = false }) ∷ ns) (from_known names inputs row)

over_known : (names inputs : List (List ℕ)) (row : List (Option Bool)) → list_all (has names) inputs ≡ true → KnownCube names (cube_over inputs row)
unfolding cube_over
over_known names [] row h = tt
over_known names (input ∷ inputs) [] h = tt
over_known names (input ∷ inputs) (None ∷ row) h = over_known names inputs row (and_parts (has names input) (list_all (has names) inputs) h).1
over_known names (input ∷ inputs) (Some bit ∷ row) h =
    let parts = and_parts (has names input) (list_all (has names) inputs) h in (parts.0, over_known names inputs row parts.1)

sorted_known : (names inputs : List (List ℕ)) (row : List (Option Bool)) → list_all (has names) inputs ≡ true → KnownCube names (sorted_cube (cube_over inputs row))
sorted_known names inputs row h = all_sorted (Known names) literal_cmp (cube_over inputs row) (over_known names inputs row h)

-- ---- tests on different lists

-- if images are the same exactly if their originals are, images are all different exactly if their
-- originals are
module _ {X : Type 0} (same : X → X → Bool) (f : X → List ℕ) (P : X → Type 0) (agree : (x y : X) → P x → P y → bytes_eq (f x) (f y) ≡ same x y) where
  has_alike : (x : X) (xs : List X) → P x → AllByRecursion P xs → has (map f xs) (f x) ≡ list_any (same x) xs
  has_alike x [] it all = refl
  has_alike x (y ∷ ys) it all = ap₂ (λ (a b : Bool). a || b) (agree x y it all.0) (has_alike x ys it all.1)

pub decided : (b c : Bool) → (b ≡ true → c ≡ true) → (c ≡ true → b ≡ true) → b ≡ c
decided true c to back = sym (to refl)
decided false true to back = back refl
decided false false to back = refl

rows_alike : (f : List Tri → List ℕ) (P : List Tri → Type 0) → ((x y : List Tri) → P x → P y → bytes_eq (f x) (f y) ≡ same_row x y)
    → (rows : List (List Tri)) → AllByRecursion P rows → all_different (map f rows) ≡ rows_differ rows
unfolding all_different rows_differ
rows_alike f P agree [] all = refl
rows_alike f P agree (row ∷ rows) all =
    ap₂ (λ (a b : Bool). not a && b) (has_alike same_row f P agree row rows all.0 all.1) (rows_alike f P agree rows all.1)

-- ---- the numbers of a table

rows_of_width : (width : ℕ) (rows : List (List (Option Bool))) → HasWidth width rows → AllByRecursion (λ (row : List Tri). length (places_of row) ≡ width) (map characters_of rows)
unfolding HasWidth
rows_of_width width [] wide = tt
rows_of_width width (row ∷ rows) wide = (ap length (places_back row) ∙ wide.0, rows_of_width width rows wide.1)

module _ (names : List (List ℕ)) (rising : AreRising names) (inputs : List (List ℕ)) (known : list_all (has names) inputs ≡ true) where
  -- the cube of a row of characters, and its numbers
  abbrev pub cube_at : List Tri → Cube
  cube_at row = sorted_cube (cube_over inputs (places_of row))

  abbrev pub numbers_at : List Tri → List ℕ
  numbers_at row = codes_of names (cube_at row)

  rising_known : (row : List (Option Bool)) → rising_from (map (signal_of names) inputs) row ≡ codes_of names (sorted_cube (cube_over inputs row))
  rising_known row =
      ap (sorted nat_cmp) (from_known names inputs row) ∙ sym (map_sorted (literals_keep names rising) (cube_over inputs row) (over_known names inputs row known))

  pub rows_known : (rows : List (List (Option Bool))) → map (rising_from (map (signal_of names) inputs)) rows ≡ map numbers_at (map characters_of rows)
  rows_known [] = refl
  rows_known (row ∷ rows) =
      ap₂ (λ (x : List ℕ) (xs : List (List ℕ)). x ∷ xs)
      (rising_known row ∙ ap (λ (places : List (Option Bool)). codes_of names (sorted_cube (cube_over inputs places))) (sym (places_back row))) (rows_known rows)

  module _ (once : all_different inputs ≡ true) where
    told_apart : (row other : List Tri) → length (places_of row) ≡ length inputs → length (places_of other) ≡ length inputs → numbers_at row ≡ numbers_at other → places_of row ≡ places_of other
    told_apart row other wide long e =
        let same : cube_at row ≡ cube_at other =
        same_items (cubes_keep names rising) cube_order numbers_order.total (cube_at row) (cube_at other) (sorted_known names inputs (places_of row) known) (sorted_known names inputs (places_of other) known) e in
        sym (sorted_row_back inputs (places_of row) once wide) ∙ ap (row_over inputs) same ∙ sorted_row_back inputs (places_of other) once long

    numbers_tell : (row other : List Tri) → length (places_of row) ≡ length inputs → length (places_of other) ≡ length inputs → bytes_eq (numbers_at row) (numbers_at other) ≡ same_row row other
    numbers_tell row other wide long =
        decided (bytes_eq (numbers_at row) (numbers_at other)) (same_row row other)
        (λ h.
        let same : row ≡ other =
        sym (characters_back row) ∙ ap characters_of (told_apart row other wide long ((bytes_eq-Decides (numbers_at row) (numbers_at other)).0 h)) ∙ characters_back other in
        subst (λ (x : List Tri). same_row row x ≡ true) same (row_itself row))
        (λ h. (bytes_eq-Decides (numbers_at row) (numbers_at other)).1 (ap numbers_at (row_same row other h)))

    pub rows_tell : (rows : List (List (Option Bool))) → HasWidth (length inputs) rows → all_different (map numbers_at (map characters_of rows)) ≡ rows_differ (map characters_of rows)
    rows_tell rows wide = rows_alike numbers_at (λ row. length (places_of row) ≡ length inputs) numbers_tell (map characters_of rows) (rows_of_width (length inputs) rows wide)

  all_known : (rows : List (List Tri)) → is_over names (map cube_at rows) ≡ true
  all_known [] = refl
  all_known (row ∷ rows) =
      and_from (is_known names (cube_at row)) (is_over names (map cube_at rows)) (known_cube names (cube_at row) (sorted_known names inputs (places_of row) known)) (all_known rows)

numbers_rise : (signals : List Signal) (rows : List (List (Option Bool))) → AreCubes (map (rising_from signals) rows)
numbers_rise signals [] = tt
numbers_rise signals (row ∷ rows) = (sorted_rises number_order (numbers_from signals row), numbers_rise signals rows)

-- ---- the table with its inputs and rows

pub unknown_input : {R : Type 0} (names : List (List ℕ)) (output : List ℕ) (table : CoverTable R) → list_all (has names) table.inputs ≡ false → is_countable names (named output table) ≡ false
unfolding named
unknown_input names output table h = ap (λ (b : Bool). b && rows_differ (map characters_of table.cover.rows)) h

module _ {R : Type 0} (names : List (List ℕ)) (rising : AreRising names) (output : List ℕ) (table : CoverTable R) (over : IsOverInputs table) (once : all_different table.inputs ≡ true)
    (wide : HasWidth table.cover.width table.cover.rows) (known : list_all (has names) table.inputs ≡ true) (cubes : List (List ℕ))
    (are : cubes ≡ map (rising_from (map (signal_of names) table.inputs)) table.cover.rows) where
  differ : all_different cubes ≡ rows_differ (map characters_of table.cover.rows)
  differ =
      ap all_different (are ∙ rows_known names rising table.inputs known table.cover.rows)
      ∙ rows_tell names rising table.inputs known once table.cover.rows (subst (λ (width : ℕ). HasWidth width table.cover.rows) over wide)

  pub twice_row : all_different cubes ≡ false → is_countable names (named output table) ≡ false
  unfolding named
  twice_row h = ap₂ (λ (a b : Bool). a && b) known (sym differ ∙ h)

  pub numbered : all_different cubes ≡ true → AreNumbers names (named output table) cubes
  unfolding named
  numbered h = record {
    countable = and_from (list_all (has names) table.inputs) (rows_differ (map characters_of table.cover.rows)) known (sym differ ∙ h);
    known = all_known names rising table.inputs known (map characters_of table.cover.rows);
    are =
        are
        ∙ rows_known names rising table.inputs known table.cover.rows
        ∙ sym (map_twice (cube_at names rising table.inputs known) (codes_of names) (map characters_of table.cover.rows));
    apart = record { rise = subst AreCubes (sym are) (numbers_rise (map (signal_of names) table.inputs) table.cover.rows); once = h };
  }

pub are_told : (names inputs slice : List (List ℕ)) (signals given : List Signal) (rows all : List (List (Option Bool))) (cubes : List (List ℕ)) → slice ≡ inputs → given ≡ signals → signals ≡ map (signal_of names) slice
    → rows ≡ all → cubes ≡ map (rising_from given) rows → cubes ≡ map (rising_from (map (signal_of names) inputs)) all
are_told names inputs slice signals given rows all cubes over handed told among e =
    e ∙ ap₂ (λ (ss : List Signal) (rs : List (List (Option Bool))). map (rising_from ss) rs) (handed ∙ told ∙ ap (map (signal_of names)) over) among
