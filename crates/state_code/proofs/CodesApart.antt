-- Codes: the least width is enough, no two states have one code, and what asks for a state's code
-- is
-- met by that code alone.
use Rattle.std.proofs.Common.{◌≡◌, ℕ, zero, suc, ◌+◌, ◌-◌, ◌*◌, ◌%◌, ◌^◌, ◌<◌, ◌≤◌, ◌==◌, Bool, true, false, ◌&&◌, Some, None, List, [], ◌∷◌, map, get_or, refl, sym, ap, ◌∙◌, subst, inl, inr, arith, if◌then◌else◌}
use Rattle.std.specs.Prelude.{nat_le, nat_lt}
use Rattle.std.specs.Int.{bit_at}
use Rattle.std.specs.List.{range_with_len}
use Rattle.std.proofs.Math.Nat.{mod-eq_of_lt}
use Rattle.std.proofs.Math.Pow.{pow-lt}
use Rattle.std.proofs.lemmas.Bool.{cases_eq, false≢true}
use Rattle.std.proofs.lemmas.Bool.Decides.{nat_tests}
use Rattle.std.proofs.lemmas.List.FromFn.{get_or-map-range_with_len}
use Rattle.std.proofs.lemmas.Nat.Bits.{bit_at-lt, bit_at_above, same_from_bits_below}
use Rattle.sis_base.specs.Rows.{agrees, matches}
use Rattle.circuit_model.specs.Values.{literal_of}
use Rattle.circuit_model.specs.Runs.{tri_of}
use Rattle.state_code.specs.declared.codes.Style.{Style}
use Rattle.state_code.specs.declared.codes.Style.TheVariants.{Natural, OneHot}
use Rattle.state_code.specs.Codes.{least_from, least_bits, code_width, code_bit, code_of}
use Rattle.state_code.specs.Encoded.{code_character}

-- the least width

below_power : (n : ℕ) → n < 2 ^ n
below_power zero = omega arith
below_power (suc n) = let rest = below_power n in omega arith

is_within : (a b : ℕ) → nat_le a b ≡ true → a ≤ b
is_within a b is = grind (arith, nat_tests)

is_above : (a b : ℕ) → nat_le a b ≡ false → b < a
is_above a b is = grind (arith, nat_tests)

enough : (more bits count : ℕ) → count ≤ 2 ^ (bits + more) → count ≤ 2 ^ least_from more bits count
unfolding least_from
enough zero bits count h = let e : bits + 0 ≡ bits = omega arith in subst (λ n. count ≤ 2 ^ n) e h
enough (suc more) bits count h = cases (nat_le count (2 ^ bits)) refl (enough more (bits + 1) count)
  where
    cases : (b : Bool) → nat_le count (2 ^ bits) ≡ b
        → (count ≤ 2 ^ (bits + 1 + more) → count ≤ 2 ^ least_from more (bits + 1) count)
        → count ≤ 2 ^ (if b then bits else least_from more (bits + 1) count)
    cases true is rest = is_within count (2 ^ bits) is
    cases false is rest = let e : bits + suc more ≡ bits + 1 + more =
        omega arith in rest (subst (λ n. count ≤ 2 ^ n) e h)

pub least_enough : (count : ℕ) → count ≤ 2 ^ least_bits count
least_enough count = enough count 0 count (let low =
    below_power count in let e : 0 + count ≡ count =
    omega arith in subst (λ n. count ≤ 2 ^ n) (sym e) (omega arith))

fewer : (more bits count : ℕ) → ((less : ℕ) → less < bits → 2 ^ less < count) → (less : ℕ)
    → less < least_from more bits count → 2 ^ less < count
unfolding least_from
fewer zero bits count before less under = before less under
fewer (suc more) bits count before less under =
    cases (nat_le count (2 ^ bits)) refl under (fewer more (bits + 1) count)
  where
    longer : 2 ^ bits < count → (one : ℕ) → one < bits + 1 → 2 ^ one < count
    longer here one within =
        elim (cases_eq one bits) as (λ _. 2 ^ one < count) [
          | inl same ↦ subst (λ n. 2 ^ n < count) (sym same) here
          | inr other ↦ before one (omega (arith, other))
        ]

    cases : (b : Bool) → nat_le count (2 ^ bits) ≡ b
        → less < (if b then bits else least_from more (bits + 1) count)
        → (((one : ℕ) → one < bits + 1 → 2 ^ one < count) → (one : ℕ)
        → one < least_from more (bits + 1) count → 2 ^ one < count)
        → 2 ^ less < count
    cases true is within rest = before less within
    cases false is within rest = rest (longer (is_above count (2 ^ bits) is)) less within

pub least_needed : (count bits : ℕ) → bits < least_bits count → 2 ^ bits < count
least_needed count = fewer count 0 count (λ less none. absurd (omega arith))

at_most : (more bits count : ℕ) → least_from more bits count ≤ bits + more
unfolding least_from
at_most zero bits count = omega arith
at_most (suc more) bits count = cases (nat_le count (2 ^ bits)) (at_most more (bits + 1) count)
  where
    cases : (b : Bool) → least_from more (bits + 1) count ≤ bits + 1 + more
        → (if b then bits else least_from more (bits + 1) count) ≤ bits + suc more
    cases true rest = omega arith
    cases false rest = omega arith

pub least_few : (count : ℕ) → least_bits count ≤ count
least_few count = let few = at_most count 0 count in omega arith

pub width_few : (style : Style) (states : ℕ) → code_width style states ≤ states
width_few Natural states = least_few states
width_few OneHot states = omega arith

-- the search for it, bit by bit

pub least_found : (count bits : ℕ) → bits ≤ count
    → least_from (count - bits) bits count ≡ least_bits count → count ≤ 2 ^ bits
    → bits ≡ least_bits count
unfolding least_from
least_found count bits within so room = cases (count - bits) refl
  where
    fits : nat_le count (2 ^ bits) ≡ true
    fits = grind (arith, nat_tests)

    cases : (more : ℕ) → count - bits ≡ more → bits ≡ least_bits count
    cases zero e = sym (ap (λ n. least_from n bits count) e) ∙ so
    cases (suc more) e =
        let here : (if nat_le count (2 ^ bits) then bits else least_from more (bits + 1) count)
        ≡ bits = rw fits refl in
        sym here ∙ (sym (ap (λ n. least_from n bits count) e) ∙ so)

pub least_later : (count bits : ℕ) → bits ≤ count
    → least_from (count - bits) bits count ≡ least_bits count → 2 ^ bits < count
    → (bits + 1 ≤ count) × (least_from (count - (bits + 1)) (bits + 1) count ≡ least_bits count)
unfolding least_from
least_later count bits within so above =
    let low = below_power bits in
    let inside : bits + 1 ≤ count = omega arith in
    let e : count - bits ≡ suc (count - (bits + 1)) = omega arith in
    (inside, cases (nat_le count (2 ^ bits)) refl (sym (ap (λ n. least_from n bits count) e) ∙ so))
  where
    cases : (b : Bool) → nat_le count (2 ^ bits) ≡ b
        → (if b then bits else least_from (count - (bits + 1)) (bits + 1) count) ≡ least_bits count
        → least_from (count - (bits + 1)) (bits + 1) count ≡ least_bits count
    cases true is e = let no = is_within count (2 ^ bits) is in absurd (omega arith)
    cases false is e = e

shifted : (bits : ℕ) → bits < 64 → 1 * 2 ^ bits % 2 ^ 128 ≡ 2 ^ bits
shifted bits few =
    let below : bits < 128 = omega arith in
    let small : 2 ^ bits < 2 ^ 128 = pow-lt below in
    let one : 1 * 2 ^ bits ≡ 2 ^ bits = omega arith in
    ap (λ n. n % 2 ^ 128) one ∙ mod-eq_of_lt small

pub found_here : (count bits : ℕ) → bits ≤ count
    → least_from (count - bits) bits count ≡ least_bits count → bits < 64
    → count ≤ 1 * 2 ^ bits % 2 ^ 128 → bits ≡ least_bits count
found_here count bits within so few room =
    least_found count bits within so (subst (λ n. count ≤ n) (shifted bits few) room)

pub found_later : (count bits : ℕ) → bits ≤ count
    → least_from (count - bits) bits count ≡ least_bits count → bits < 64
    → 1 * 2 ^ bits % 2 ^ 128 < count
    → (bits + 1 ≤ count) × (least_from (count - (bits + 1)) (bits + 1) count ≡ least_bits count)
found_later count bits within so few above =
    least_later count bits within so (subst (λ n. n < count) (shifted bits few) above)

pub found_last : (count bits : ℕ) → bits ≤ count
    → least_from (count - bits) bits count ≡ least_bits count → bits ≡ 64 → count < 2 ^ 64
    → 64 ≡ least_bits count
found_last count bits within so end small = sym end
    ∙ least_found count bits within so (subst (λ n. count ≤ 2 ^ n) (sym end) (omega arith))

-- codes differ

one_bit : (x y : ℕ) → x < 2 → y < 2 → (x == 1) ≡ (y == 1) → x ≡ y
one_bit zero zero a b e = refl
one_bit zero (suc zero) a b e = cc
one_bit (suc zero) zero a b e = cc
one_bit (suc zero) (suc zero) a b e = refl
one_bit zero (suc (suc y)) a b e = absurd (omega arith)
one_bit (suc zero) (suc (suc y)) a b e = absurd (omega arith)
one_bit (suc (suc x)) y a b e = absurd (omega arith)

same_number : (a b : ℕ) → true ≡ (b == a) → a ≡ b
same_number a b e = grind (arith, nat_tests)

itself : (a : ℕ) → (a == a) ≡ true
itself a = grind (arith, nat_tests)

pub bits_differ : (style : Style) (states one other : ℕ) → one < states → other < states
    → ((bit : ℕ) → bit < code_width style states
    → code_bit style one bit ≡ code_bit style other bit) → one ≡ other
bits_differ Natural states one other within inside same =
    let room = least_enough states in
    same_from_bits_below (least_bits states) one other (omega arith) (omega arith)
    (λ i below. one_bit (bit_at one i) (bit_at other i) (bit_at-lt one i) (bit_at-lt other i)
    (same i below))
bits_differ OneHot states one other within inside same =
    same_number one other (sym (itself one) ∙ same one within)

listed_same : (f g : ℕ → Bool) (width : ℕ)
    → map f (range_with_len 0 width) ≡ map g (range_with_len 0 width) → (bit : ℕ) → bit < width
    → f bit ≡ g bit
listed_same f g width e bit below =
    sym (get_or-map-range_with_len f 0 width bit bit false below (omega arith))
    ∙ (ap (λ (bits : List Bool). get_or bits bit false) e
    ∙ get_or-map-range_with_len g 0 width bit bit false below (omega arith))

pub codes_differ : (style : Style) (states one other : ℕ) → one < states → other < states
    → code_of style (code_width style states) one ≡ code_of style (code_width style states) other
    → one ≡ other
codes_differ style states one other within inside e =
    bits_differ style states one other within inside
    (listed_same (code_bit style one) (code_bit style other) (code_width style states) e)

-- a number has no bits past those of a machine word
pub high_bit : (style : Style) (state bit : ℕ) → style ≡ Natural → state < 2 ^ 64 → 64 ≤ bit
    → nat_lt bit 64 ≡ code_bit style state bit
high_bit style state bit natural small high = not_below
    ∙ (none ∙ ap (λ (one : Style). code_bit one state bit) (sym natural))
  where
    not_below : nat_lt bit 64 ≡ false
    not_below = grind (arith, nat_tests)

    none : false ≡ code_bit Natural state bit
    none = ap (λ n. n == 1) (sym (bit_at_above state 64 bit small high))

-- what asks for a code

asks_itself : (f : ℕ → Bool) (from count : ℕ)
    → matches (map literal_of (map (λ bit. tri_of (f bit)) (range_with_len from count)))
    (map f (range_with_len from count)) ≡ true
unfolding matches
asks_itself f from zero = refl
asks_itself f from (suc count) = cases (f from) (asks_itself f (from + 1) count)
  where
    cases : (b : Bool) → matches
        (map literal_of (map (λ bit. tri_of (f bit)) (range_with_len (from + 1) count)))
        (map f (range_with_len (from + 1) count)) ≡ true
        → (agrees (literal_of (tri_of b)) b && matches
        (map literal_of (map (λ bit. tri_of (f bit)) (range_with_len (from + 1) count)))
        (map f (range_with_len (from + 1) count))) ≡ true
    cases true rest = rest
    cases false rest = rest

met_same : (f g : ℕ → Bool) (from count : ℕ)
    → matches (map literal_of (map (λ bit. tri_of (f bit)) (range_with_len from count)))
    (map g (range_with_len from count)) ≡ true
    → map f (range_with_len from count) ≡ map g (range_with_len from count)
unfolding matches
met_same f g from zero h = refl
met_same f g from (suc count) h = cases (f from) (g from) h (met_same f g (from + 1) count)
  where
    rest : Bool
    rest = matches (map literal_of (map (λ bit. tri_of (f bit)) (range_with_len (from + 1) count)))
        (map g (range_with_len (from + 1) count))

    cases : (a b : Bool) → (agrees (literal_of (tri_of a)) b && matches
        (map literal_of (map (λ bit. tri_of (f bit)) (range_with_len (from + 1) count)))
        (map g (range_with_len (from + 1) count))) ≡ true
        → (matches (map literal_of (map (λ bit. tri_of (f bit)) (range_with_len (from + 1) count)))
        (map g (range_with_len (from + 1) count)) ≡ true
        → map f (range_with_len (from + 1) count) ≡ map g (range_with_len (from + 1) count))
        → a ∷ map f (range_with_len (from + 1) count) ≡ b ∷ map g (range_with_len (from + 1) count)
    cases true true k more = ap (λ (bits : List Bool). true ∷ bits) (more k)
    cases false false k more = ap (λ (bits : List Bool). false ∷ bits) (more k)
    cases true false k more = absurd (false≢true k)
    cases false true k more = absurd (false≢true k)

pub code_met : (style : Style) (states current place : ℕ) → current < states → place < states
    → matches (map literal_of (map (code_character style (Some current))
    (range_with_len 0 (code_width style states)))) (code_of style (code_width style states)
    place) ≡ (current == place)
code_met style states current place within inside =
    elim (cases_eq current place) as (λ _. asked ≡ (current == place)) [
      | inl same ↦ subst (λ n. asks n ≡ (current == n)) same
          (asks_itself (code_bit style current) 0 (code_width style states) ∙ sym (itself current))
      | inr other ↦ none asked refl other ∙ sym (apart other)
    ]
  where
    asks : ℕ → Bool
    asks n = matches (map literal_of (map (λ bit. tri_of (code_bit style current bit))
        (range_with_len 0 (code_width style states)))) (code_of style (code_width style states) n)

    asked : Bool
    asked = matches (map literal_of (map (λ bit. tri_of (code_bit style current bit))
        (range_with_len 0 (code_width style states)))) (code_of style (code_width style states)
        place)

    apart : (current ≡ place → ⊥) → (current == place) ≡ false
    apart other = grind (arith, nat_tests, other)

    none : (b : Bool) → asked ≡ b → (current ≡ place → ⊥) → asked ≡ false
    none true e other = absurd
        (other (codes_differ style states current place within inside
        (met_same (code_bit style current) (code_bit style place) 0 (code_width style states) e)))
    none false e other = e

pub any_met : (style : Style) (from count : ℕ) (point : List Bool)
    → matches (map literal_of (map (code_character style None) (range_with_len from count))) point
    ≡ true
unfolding matches
any_met style from zero point = refl
any_met style from (suc count) [] = refl
any_met style from (suc count) (bit ∷ point) = any_met style (from + 1) count point
