-- Numbers of digits, digit by digit, and signed numbers.
use Rattle.std.proofs.Common.{◌≡◌, ℕ, ◌+◌, ◌-◌, ◌*◌, ◌^◌, ◌<◌, ◌≤◌, min, true, false, Some, option_map, List, [], length, take, drop, get_or, pos, ◌-ℤ◌, neg_ℤ, to_z, of_z, w32, w64, refl, ◌∙◌, ap, arith}
use Rattle.std.proofs.lemmas.List.Sums.{fold_more}
use Rattle.std.proofs.lemmas.Bool.Decides.{nat_tests}
use Rattle.std.proofs.lemmas.Int.{ints}
use Rattle.sis_text.specs.Words.{begins_with}
use Rattle.sis_text.specs.Decimals.{number_of}
use Rattle.sis_script.specs.Kinds.{are_digits, number_within, integer_of}

pub number_none : number_of [] ≡ 0
unfolding number_of
number_none = refl

pub number_more : (digits : List ℕ) (i : ℕ) → i < length digits → number_of (take (i + 1) digits) ≡ number_of (take i digits) * 10 + (get_or digits i 0 - 48)
unfolding number_of
number_more digits i inside = fold_more (λ number digit. number * 10 + (digit - 48)) 0 digits i 0 inside

-- a number that is kept below a bound takes one more digit
pub capped_more : (top whole digit : ℕ) → min (min (min whole top * 10) top + digit) top ≡ min (whole * 10 + digit) top
capped_more top whole digit = omega arith

pub found_within : (least most : ℕ) (word : List ℕ) (number : ℕ) → are_digits word ≡ true → number ≡ min (number_of word) (2 ^ 128 - 1) →
    most < 2 ^ 64 → least ≤ number → number ≤ most → Some number ≡ number_within least most word
unfolding number_within
found_within least most word number digits capped small low high =
    let same : number ≡ number_of word = omega arith in
    grind (arith, nat_tests)

pub negated : (number : ℕ) → number ≤ 2 ^ 31 → to_z w32 (of_z w32 (to_z w64 (of_z w64 (pos 0 -ℤ to_z w64 number)))) ≡ neg_ℤ (pos number)
negated number small = omega (arith, ints)

pub negative : (word digits : List ℕ) (number : ℕ) → begins_with 45 word ≡ true → digits ≡ drop 1 word → Some number ≡ number_within 0 (2 ^ 31) digits →
    number ≤ 2 ^ 31 → Some (to_z w32 (of_z w32 (to_z w64 (of_z w64 (pos 0 -ℤ to_z w64 number))))) ≡ integer_of word
unfolding integer_of
negative word digits number dash same found small =
    let whole : Some number ≡ number_within 0 (2 ^ 31) (drop 1 word) = found ∙ ap (number_within 0 (2 ^ 31)) same in
    rw dash (ap Some (negated number small) ∙ ap (option_map (λ n. neg_ℤ (pos n))) whole)

pub positive : (word : List ℕ) (number : ℕ) → begins_with 45 word ≡ false → Some number ≡ number_within 0 (2 ^ 31 - 1) word →
    number ≤ 2 ^ 31 - 1 → Some (to_z w32 number) ≡ integer_of word
unfolding integer_of
positive word number dash found small =
    let plain : to_z w32 number ≡ pos number = omega (arith, ints) in
    rw dash (ap Some plain ∙ ap (option_map pos) found)
