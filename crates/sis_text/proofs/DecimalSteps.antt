-- Numbers of digits, digit by digit.
use Rattle.std.proofs.Common.{◌≡◌, ℕ, ◌+◌, ◌-◌, ◌*◌, ◌^◌, ◌<◌, ◌≤◌, Bool, true, false, List, length, take, take_all, get_or, refl, sym, ◌∙◌, ap, subst, arith}
use Rattle.std.specs.List.{list_all}
use Rattle.std.proofs.Math.Nat.{pow-le-pow_right}
use Rattle.std.proofs.lemmas.List.Folds.{list_all_at}
use Rattle.std.proofs.lemmas.List.Sums.{fold_more}
use Rattle.std.proofs.lemmas.Bool.Decides.{nat_tests}
use Rattle.std.proofs.lemmas.Nat.{pow-add}
use Rattle.std.proofs.Math.Nat.{mul-lt-mul_of_pos_right, one-le-pow}
use Rattle.sis_text.specs.Decimals.{is_digit, number_of}

-- the number that the first digits write
pub record IsNumberSoFar (digits : List ℕ) (count number : ℕ) : Type 0 where
  pub value : number ≡ number_of (take count digits)
  pub bound : number < 10 ^ count

digit_range : (byte : ℕ) → is_digit byte ≡ true → (48 ≤ byte) × (byte ≤ 57)
digit_range byte h = grind (arith, nat_tests)

pub digit_at : (digits : List ℕ) (i : ℕ) → list_all is_digit digits ≡ true → i < length digits → (48 ≤ get_or digits i 0) × (get_or digits i 0 ≤ 57)
digit_at digits i all inside =
    cases (is_digit (get_or digits i 0)) refl
  where
    cases : (b : Bool) → is_digit (get_or digits i 0) ≡ b → (48 ≤ get_or digits i 0) × (get_or digits i 0 ≤ 57)
    cases true e = digit_range (get_or digits i 0) e
    cases false e =
        let no : list_all is_digit digits ≡ false = list_all_at is_digit digits i 0 inside e in
        let off : true ≡ false = sym all ∙ no in
        cc

pub small : {number : ℕ} (i : ℕ) → number < 10 ^ i → i ≤ 9 → number < 1000000000
small i below few = omega (arith, pow-le-pow_right {n = 10} (omega arith) few)

pub none_so_far : (digits : List ℕ) → IsNumberSoFar digits 0 0
unfolding number_of
none_so_far digits = record { value = refl; bound = omega arith }

pub one_more : (digits : List ℕ) (i number : ℕ) → list_all is_digit digits ≡ true → i < length digits → IsNumberSoFar digits i number → IsNumberSoFar digits (i + 1) (number * 10 + (get_or digits i 0 - 48))
unfolding number_of
one_more digits i number all inside so =
    let range = digit_at digits i all inside in
    let power : 10 ^ (i + 1) ≡ 10 ^ i * 10 = pow-add 10 i 1 in
    record {
      value = ap (λ n. n * 10 + (get_or digits i 0 - 48)) so.value ∙ sym (fold_more (λ number digit. number * 10 + (digit - 48)) 0 digits i 0 inside);
      bound = omega (arith, power, range.0, range.1, so.bound);
    }

pub all_so_far : (digits : List ℕ) (i number : ℕ) → length digits ≤ i → IsNumberSoFar digits i number → number ≡ number_of digits
all_so_far digits i number end so = so.value ∙ ap number_of (take_all i digits end)

pub scaled_fits : (number len : ℕ) → len ≤ 6 → number < 10 ^ len → number * 10 ^ (6 - len) < 1000000
scaled_fits number len few below =
    let whole : 10 ^ len * 10 ^ (6 - len) ≡ 10 ^ 6 = let six : len + (6 - len) ≡ 6 = omega arith in sym (pow-add 10 len (6 - len)) ∙ ap (λ (n : ℕ). 10 ^ n) six in
    let less : number * 10 ^ (6 - len) < 10 ^ len * 10 ^ (6 - len) = mul-lt-mul_of_pos_right below (one-le-pow (6 - len) 10 (omega arith)) in
    subst (λ n. number * 10 ^ (6 - len) < n) whole less
