-- Numbers and their literals and cubes, and conversely.
use Rattle.std.proofs.Common.{◌≡◌, ℕ, ◌+◌, ◌*◌, ◌/◌, ◌%◌, ◌<◌, Bool, true, false, List, [], ◌∷◌, map, length, get_or, nat_eq, refl, ap, ap₂, ◌∙◌, arith, ltb-true}
use Rattle.std.proofs.lemmas.Bool.{and_parts, and_from}
use Rattle.circuit_model.specs.Names.{has}
use Rattle.cover_names.specs.Literals.{Cube}
use Rattle.cover_names.specs.Cubes.{is_over}
use Rattle.cover_names.specs.declared.literal.Literal.{Literal}
use Rattle.net_gains.specs.Codes.{AreRising, place_of, bit_number, code_of, codes_of, coded, is_known, is_code, are_codes, are_coded}
use Rattle.net_gains.proofs.Places.{name_at_place}
use Rattle.net_gains.proofs.Looked.{literal_back}
use Rattle.net_gains.specs.Numbers.{literal_at, cubes_at}

half_of : (place bit : ℕ) → bit < 2 → (2 * place + bit) / 2 ≡ place
half_of place bit h = omega arith

rest_of : (place bit : ℕ) → bit < 2 → (2 * place + bit) % 2 ≡ bit
rest_of place bit h = omega arith

bit_told : (bit : Bool) → nat_eq (bit_number bit) 1 ≡ bit
bit_told true = refl
bit_told false = refl

bit_small : (bit : Bool) → bit_number bit < 2
bit_small true = omega arith
bit_small false = omega arith

-- ---- from literals to numbers and back

pub literal_decoded : (names : List (List ℕ)) (literal : Literal) → has names literal.name ≡ true → literal_at names (code_of names literal) ≡ literal
unfolding code_of
literal_decoded names literal known =
    let small = bit_small literal.bit in
    ap₂ (λ (name : List ℕ) (bit : Bool). let made : Literal = record { name = name; bit = bit } in made)
    (ap (λ (place : ℕ). get_or names place []) (half_of (place_of names literal.name) (bit_number literal.bit) small) ∙ name_at_place names literal.name [] known)
    (ap (λ (n : ℕ). nat_eq n 1) (rest_of (place_of names literal.name) (bit_number literal.bit) small) ∙ bit_told literal.bit)

pub cube_decoded : (names : List (List ℕ)) (cube : Cube) → is_known names cube ≡ true → map (literal_at names) (codes_of names cube) ≡ cube
cube_decoded names [] known = refl
cube_decoded names (literal ∷ cube) known =
    let parts = and_parts (has names literal.name) (is_known names cube) known in
    ap₂ (λ (x : Literal) (xs : Cube). x ∷ xs) (literal_decoded names literal parts.0) (cube_decoded names cube parts.1)

pub cubes_decoded : (names : List (List ℕ)) (cubes : List Cube) → is_over names cubes ≡ true → cubes_at names (coded names cubes) ≡ cubes
cubes_decoded names [] known = refl
cubes_decoded names (cube ∷ cubes) known =
    let parts = and_parts (is_known names cube) (is_over names cubes) known in
    ap₂ (λ (x : Cube) (xs : List Cube). x ∷ xs) (cube_decoded names cube parts.0) (cubes_decoded names cubes parts.1)

-- ---- from numbers to literals and back

module _ (names : List (List ℕ)) (rising : AreRising names) where
  literal_known : (number : ℕ) → is_code names number ≡ true → (has names (literal_at names number).name ≡ true) × (code_of names (literal_at names number) ≡ number)
  literal_known number h =
      let low : number < 2 * length names = ltb-true number (2 * length names) h in
      let back = literal_back names rising number (get_or names (number / 2) []) (omega arith) refl in (back.1, back.2)

  cube_known : (numbers : List ℕ) → are_codes names numbers ≡ true → (is_known names (map (literal_at names) numbers) ≡ true) × (codes_of names (map (literal_at names) numbers) ≡ numbers)
  cube_known [] h = (refl, refl)
  cube_known (number ∷ numbers) h =
      let parts = and_parts (is_code names number) (are_codes names numbers) h in
      let first = literal_known number parts.0 in
      let rest = cube_known numbers parts.1 in (
        and_from (has names (literal_at names number).name) (is_known names (map (literal_at names) numbers)) first.0 rest.0,
        ap₂ (λ (n : ℕ) (ns : List ℕ). n ∷ ns) first.1 rest.1,
      )

  -- the cubes of numbers are known, and have those numbers
  pub cubes_known : (cubes : List (List ℕ)) → are_coded names cubes ≡ true → (is_over names (cubes_at names cubes) ≡ true) × (coded names (cubes_at names cubes) ≡ cubes)
  cubes_known [] h = (refl, refl)
  cubes_known (cube ∷ cubes) h =
      let parts = and_parts (are_codes names cube) (are_coded names cubes) h in
      let first = cube_known cube parts.0 in
      let rest = cubes_known cubes parts.1 in (
        and_from (is_known names (map (literal_at names) cube)) (is_over names (cubes_at names cubes)) first.0 rest.0,
        ap₂ (λ (x : List ℕ) (xs : List (List ℕ)). x ∷ xs) first.1 rest.1,
      )
