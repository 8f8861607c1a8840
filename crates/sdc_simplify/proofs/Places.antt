-- Names at their places among others, and the bits of points there.
use Rattle.std.proofs.Common.{◌≡◌, ℕ, ◌<◌, zero, suc, Bool, true, false, if◌then◌else◌, eqb, Option, Some, None, List, [], ◌∷◌, map, length, get_or, bytes_eq, position, unwrap_or, refl, sym, ap, ap₂, ◌∙◌, subst, arith}
use Rattle.std.proofs.lemmas.Bool.{false≢true, eqb-true, or_from, or_parts, false_from_ne_true}
use Rattle.std.specs.List.{list_all}
use Rattle.std.proofs.lemmas.List.{length-map}
use Rattle.std.proofs.lemmas.List.Folds.{list_all_at}
use Rattle.sis_base.specs.Rows.{some_matches, HasWidth}
use Rattle.circuit_model.specs.Names.{has, all_different}
use Rattle.circuit_model.specs.Runs.{bit_of}
use Rattle.circuit_laws.proofs.Names.{name_is, name_not, name_apart, different_head, different_tail}
use Rattle.cube_cover.specs.Covers.{Shape}
use Rattle.cover_ops.specs.Composed.{AreBelow, placed_rows, inner_point}
use Rattle.cover_ops.proofs.Compositions.{is_target, AreApart, value-inner_row}
use Rattle.alg_tables.specs.Taking.{entries}
use Rattle.alg_tables.proofs.Places.{IsFound, found}
use Rattle.alg_tables.proofs.Taken.{has_at}
use Rattle.sdc_simplify.specs.Turns.{bits_at, IsSpread}

-- the bit of a name is that at its place
pub bit_there : (names : List (List ℕ)) (point : List Bool) (place : ℕ) (name : List ℕ) → all_different names ≡ true → length point ≡ length names → place < length names
    → name ≡ get_or names place [] → unwrap_or (bit_of names point name) false ≡ get_or point place false
unfolding bit_of
bit_there [] point place name different long lt is = absurd (omega (arith, lt))
bit_there (first ∷ names) [] place name different long lt is = absurd (omega (arith, long))
bit_there (first ∷ names) (bit ∷ bits) zero name different long lt is =
    ap (λ (b : Bool). unwrap_or (if b then Some bit else bit_of names bits name) false) (name_is name first is)
bit_there (first ∷ names) (bit ∷ bits) (suc place) name different long lt is =
    ap (λ (b : Bool). unwrap_or (if b then Some bit else bit_of names bits name) false) (name_not name first apart)
    ∙ bit_there names bits place name (different_tail first names different) (omega (arith, long)) (omega (arith, lt)) is
  where
    apart : name ≡ first → ⊥
    apart same = false≢true
        (sym (different_head first names different) ∙ (ap (has names) (sym same ∙ is) ∙ has_at names place (omega (arith, lt))))

-- the bits at the places of other names are the bits of these
there : (names : List (List ℕ)) (name : List ℕ) (place : ℕ) → Some place ≡ position (bytes_eq name) names → (place < length names) × (get_or names place [] ≡ name)
there names name place at = let is = subst (IsFound names name) (sym at) (found names name) in (is.0, is.1)

pub bits_placed : (names others : List (List ℕ)) (places : List ℕ) (point : List Bool) → all_different names ≡ true → length point ≡ length names → map Some places ≡ entries names others
    → inner_point places point ≡ bits_at names point others
bits_placed names [] [] point different long at = refl
bits_placed names [] (place ∷ places) point different long at = absurd cc
bits_placed names (other ∷ others) [] point different long at = absurd cc
bits_placed names (other ∷ others) (place ∷ places) point different long at =
    let first : Some place ≡ position (bytes_eq other) names = cc in
    let rest : map Some places ≡ entries names others = cc in
    let is = there names other place first in
    ap₂ (λ (bit : Bool) (bits : List Bool). bit ∷ bits)
    (sym (bit_there names point place other different long is.0 (sym is.1)))
    (bits_placed names others places point different long rest)

-- places of different names are different, and there
pub places_below : (names others : List (List ℕ)) (places : List ℕ) → map Some places ≡ entries names others → AreBelow (length names) places
unfolding AreBelow
places_below names others [] at = tt
places_below names [] (place ∷ places) at = absurd cc
places_below names (other ∷ others) (place ∷ places) at =
    let first : Some place ≡ position (bytes_eq other) names = cc in
    let rest : map Some places ≡ entries names others = cc in
    ((there names other place first).0, places_below names others places rest)

not_target : (names others : List (List ℕ)) (places : List ℕ) (place : ℕ) → has others (get_or names place []) ≡ false → map Some places ≡ entries names others → is_target place places ≡ false
not_target names others [] place apart at = refl
not_target names [] (other_place ∷ places) place apart at = absurd cc
not_target names (other ∷ others) (other_place ∷ places) place apart at =
    let first : Some other_place ≡ position (bytes_eq other) names = cc in
    let rest : map Some places ≡ entries names others = cc in
    let parts = or_parts (bytes_eq (get_or names place []) other) (has others (get_or names place [])) apart in
    or_from (eqb place other_place) (is_target place places)
    (false_from_ne_true (eqb place other_place) (λ e.
    name_apart (get_or names place []) other parts.0 (ap (λ (n : ℕ). get_or names n []) (eqb-true place other_place e) ∙ (there names other other_place first).1)))
    (not_target names others places place parts.1 rest)

pub places_apart : (names others : List (List ℕ)) (places : List ℕ) → all_different others ≡ true → map Some places ≡ entries names others → AreApart places
places_apart names others [] different at = tt
places_apart names [] (place ∷ places) different at = absurd cc
places_apart names (other ∷ others) (place ∷ places) different at =
    let first : Some place ≡ position (bytes_eq other) names = cc in
    let rest : map Some places ≡ entries names others = cc in (
      not_target names others places place (subst (λ (n : List ℕ). has others n ≡ false) (sym (there names other place first).1) (different_head other others different)) rest,
      places_apart names others places (different_tail other others different) rest,
    )

pub places_many : (names others : List (List ℕ)) (places : List ℕ) → map Some places ≡ entries names others → length places ≡ length others
places_many names others places at =
    sym (length-map places (λ (place : ℕ). Some place)) ∙ (ap length at ∙ length-map others (λ (name : List ℕ). position (bytes_eq name) names))

-- rows that are put at the places of their names
pub spread_rows : (names others : List (List ℕ)) (places : List ℕ) (rows : List (List (Option Bool))) (made : Shape) → all_different names ≡ true → all_different others ≡ true
    → map Some places ≡ entries names others → HasWidth (length others) rows → made ≡ record { width = length names; rows = placed_rows (length names) places rows } → IsSpread names others rows made
spread_rows names others places rows made different others_differ at wide is = record {
  width = ap (λ (shape : Shape). shape.width) is;
  value = λ point long.
      ap (λ (shape : Shape). some_matches shape.rows point) is
      ∙ (value-inner_row (length names) (length others) places rows point (places_below names others places at) (places_apart names others places others_differ at) long
      (subst (λ (n : ℕ). HasWidth n rows) (sym (places_many names others places at)) wide)
      ∙ ap (some_matches rows) (bits_placed names others places point different long at));
}

-- a name that stands among names has a place
pub known : (names : List (List ℕ)) (name : List ℕ) → has names name ≡ true → None ≡ position (bytes_eq name) names → ⊥
known names name stands none = false≢true (sym (subst (IsFound names name) (sym none) (found names name)) ∙ stands)

pub among_at : (names others : List (List ℕ)) (i : ℕ) (name : List ℕ) → list_all (has names) others ≡ true → i < length others → name ≡ get_or others i name → has names name ≡ true
among_at names others i name all lt is = ap (has names) is ∙ cases (has names (get_or others i name)) refl
  where
    cases : (b : Bool) → has names (get_or others i name) ≡ b → has names (get_or others i name) ≡ true
    cases true e = e
    cases false e = absurd (false≢true (sym (list_all_at (has names) others i name lt e) ∙ all))
