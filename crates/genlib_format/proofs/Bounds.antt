-- The numbers of a library file are below 10^15 millionths.
use Rattle.std.proofs.Common.{◌≡◌, ℕ, zero, suc, ◌+◌, ◌-◌, ◌*◌, ◌^◌, ◌<◌, ◌≤◌, ◌&&◌, nat_le, nat_lt, Bool, true, false, if◌then◌else◌, unwrap_or, Option, Some, None, List, [], ◌∷◌, length, take_all, get_or, map, refl, sym, ◌∙◌, ap, subst, arith}
use Rattle.std.specs.List.{AllByRecursion, list_all}
use Rattle.std.specs.Option.{option_map_or}
use Rattle.std.proofs.Math.Nat.{pow-le-pow_right}
use Rattle.std.proofs.lemmas.Bool.Decides.{nat_tests}
use Rattle.circuit_tables.proofs.Once.{and_left, and_right}
use Rattle.sis_text.specs.Decimals.{is_digit, number_of, whole_part, fraction_part, are_parts, millionths_of, decimal_of}
use Rattle.sis_text.proofs.DecimalSteps.{IsNumberSoFar, none_so_far, one_more, scaled_fits}
use Rattle.genlib_format.specs.declared.pins.PinLine.{PinLine}
use Rattle.genlib_format.specs.Reader.{number_in, block_in, line_for, block_for}
use Rattle.genlib_format.specs.Soundness.{IsShort}

so_far : (digits : List ℕ) (i : ℕ) → list_all is_digit digits ≡ true → i ≤ length digits → (number : ℕ) × IsNumberSoFar digits i number
so_far digits zero all le = (0, none_so_far digits)
so_far digits (suc i) all le =
    let (number, so) = so_far digits i all (omega arith) in
    let at : suc i ≡ i + 1 = omega arith in
    (number * 10 + (get_or digits i 0 - 48), subst (λ (n : ℕ). IsNumberSoFar digits n (number * 10 + (get_or digits i 0 - 48))) (sym at) (one_more digits i number all (omega arith) so))

number_small : (digits : List ℕ) (n : ℕ) → list_all is_digit digits ≡ true → length digits ≤ n → number_of digits < 10 ^ n
number_small digits n all le =
    let (number, so) = so_far digits (length digits) all (omega arith) in
    let value : number ≡ number_of digits = so.value ∙ ap number_of (take_all (length digits) digits (omega arith)) in
    let more : 10 ^ length digits ≤ 10 ^ n = pow-le-pow_right {n = 10} (omega arith) le in
    omega (arith, value, so.bound, more)

number_fits : (digits : List ℕ) → list_all is_digit digits ≡ true → number_of digits < 10 ^ length digits
number_fits digits all = number_small digits (length digits) all (omega arith)

le_true : (m n : ℕ) → nat_le m n ≡ true → m ≤ n
le_true m n e = grind (arith, nat_tests)

parts_small : (whole fraction : List ℕ) → are_parts whole fraction ≡ true → millionths_of whole fraction < 10 ^ 15
unfolding are_parts millionths_of
parts_small whole fraction e =
    let a = and_left (list_all is_digit whole && list_all is_digit fraction && nat_le (length whole) 9 && nat_le (length fraction) 6) (nat_lt 0 (length whole + length fraction)) e in
    let b = and_left (list_all is_digit whole && list_all is_digit fraction && nat_le (length whole) 9) (nat_le (length fraction) 6) a in
    let c = and_left (list_all is_digit whole && list_all is_digit fraction) (nat_le (length whole) 9) b in
    let digits : list_all is_digit whole ≡ true = and_left _ _ c in
    let others : list_all is_digit fraction ≡ true = and_right _ _ c in
    let few : length whole ≤ 9 = le_true _ _ (and_right _ _ b) in
    let six : length fraction ≤ 6 = le_true _ _ (and_right _ _ a) in
    let big : number_of whole < 10 ^ 9 = number_small whole 9 digits few in
    let small : number_of fraction * 10 ^ (6 - length fraction) < 1000000 = scaled_fits (number_of fraction) (length fraction) six (number_fits fraction others) in
    omega (arith, big, small)

pub number_below : (word : List ℕ) → (number_in word).0 < 10 ^ 15
unfolding number_in decimal_of
number_below word = by (are_parts (whole_part word) (fraction_part word)) refl
  where
    by : (b : Bool) → are_parts (whole_part word) (fraction_part word) ≡ b → unwrap_or (if b then Some (millionths_of (whole_part word) (fraction_part word)) else None) 0 < 10 ^ 15
    by true e = parts_small (whole_part word) (fraction_part word) e
    by false e = omega arith

block_short : (line : PinLine) → IsShort (block_in line)
unfolding block_in
block_short line = (number_below line.rise, number_below line.fall)

pin_short : (lines : List PinLine) (pin : List ℕ) → IsShort (block_for lines pin)
unfolding block_for
pin_short lines pin = by (line_for lines pin)
  where
    by : (o : Option PinLine) → IsShort (option_map_or block_in o (record { rise = record { 0 = 0 }; fall = record { 0 = 0 } }))
    by None = (omega arith, omega arith)
    by (Some line) = block_short line

pub blocks_short : (lines : List PinLine) (pins : List (List ℕ)) → AllByRecursion IsShort (map (block_for lines) pins)
blocks_short lines [] = tt
blocks_short lines (pin ∷ pins) = (pin_short lines pin, blocks_short lines pins)
