-- Numbers of inputs and outputs that are written are read as they were.
use Rattle.std.proofs.Common.{◌≡◌, ℕ, ◌+◌, ◌-◌, ◌*◌, ◌/◌, ◌%◌, ◌^◌, ◌<◌, ◌≤◌, ◌==◌, true, false, Some, List, [], ◌∷◌, ◌++◌, length, decimal, nat_le, nat_lt, refl, ◌∙◌, arith, length-append}
use Rattle.std.specs.List.{list_all, fold}
use Rattle.std.proofs.lemmas.List.Folds.{list_all-append}
use Rattle.std.proofs.lemmas.Fmt.{decimal_by_steps, length-decimal-le_wide}
use Rattle.std.proofs.lemmas.Bool.Decides.{nat_tests}
use Rattle.sis_base.specs.Written.{is_word, is_word_byte}
use Rattle.sis_text.specs.Words.{begins_with}
use Rattle.sis_text.specs.Decimals.{is_digit, number_of}
use Rattle.kiss_format.specs.Statements.{count_of}
use Rattle.kiss_format.proofs.Ports.{numeral_bytes}
use Rattle.sis_base.specs.declared.limits.TheConstants.{MAX_PORTS}

digit_at : (n : ℕ) → n < 10 → is_digit (48 + n) ≡ true
digit_at n few = grind (arith, nat_tests)

lead_at : (n : ℕ) → 1 ≤ n → (48 + n == 48) ≡ false
lead_at n some = grind (arith, nat_tests)

fold_last : (f : ℕ → ℕ → ℕ) (start last : ℕ) (xs : List ℕ) → fold f start (xs ++ last ∷ []) ≡ f (fold f start xs) last
fold_last f start last [] = refl
fold_last f start last (x ∷ xs) = fold_last f (f start x) last xs

-- digits, at least one, that write a number, the first not 0 where the number is not
record Writes (number : ℕ) (digits : List ℕ) : Type 0 where
  all : list_all is_digit digits ≡ true
  value : number_of digits ≡ number
  some : 0 < length digits
  lead : 1 ≤ number → begins_with 48 digits ≡ false

writes_one : (n : ℕ) → n < 10 → Writes n ((48 + n) ∷ [])
unfolding number_of
writes_one n few = record { all = rw (digit_at n few) refl; value = omega arith; some = omega arith; lead = lead_at n }

begins_front : (digits : List ℕ) (last : ℕ) → 0 < length digits → begins_with 48 (digits ++ last ∷ []) ≡ begins_with 48 digits
begins_front [] last some = absurd (omega (arith, some))
begins_front (digit ∷ digits) last some = refl

writes_more : (n : ℕ) (digits : List ℕ) → 10 ≤ n → Writes (n / 10) digits → Writes n (digits ++ (48 + n % 10) ∷ [])
unfolding number_of
writes_more n digits large front =
    let last : n % 10 < 10 = omega arith in
    let value : number_of (digits ++ (48 + n % 10) ∷ []) ≡ number_of digits * 10 + (48 + n % 10 - 48) = fold_last (λ number digit. number * 10 + (digit - 48)) 0 (48 + n % 10) digits in
    record {
      all = list_all-append is_digit digits ((48 + n % 10) ∷ []) ∙ rw (front.all, digit_at (n % 10) last) refl;
      value = omega (arith, value, front.value);
      some = omega (arith, length-append digits ((48 + n % 10) ∷ []));
      lead = λ some. begins_front digits (48 + n % 10) front.some ∙ front.lead (omega (arith, large));
    }

decimal_writes : (n : ℕ) → n < 2 ^ 64 → Writes n (decimal n)
decimal_writes = decimal_by_steps (λ n digits. Writes n digits) writes_one writes_more

some_test : (len : ℕ) → 0 < len → nat_lt 0 len ≡ true
some_test len some = grind (arith, nat_tests)

few_test : (len most : ℕ) → len ≤ most → nat_le len most ≡ true
few_test len most few = grind (arith, nat_tests)

pub count_back : (n : ℕ) → 1 ≤ n → n ≤ MAX_PORTS → count_of (decimal n) ≡ Some n
unfolding count_of
count_back n some few =
    let writes = decimal_writes n (omega (arith, few)) in
    let four : length (decimal n) ≤ 4 = length-decimal-le_wide 4 n (omega arith) (omega (arith, few)) (omega (arith, few)) in
    rw (writes.all, some_test (length (decimal n)) writes.some, few_test (length (decimal n)) 4 four, writes.lead some, writes.value, few_test n MAX_PORTS few) refl

nonempty_word : (bytes : List ℕ) → 0 < length bytes → list_all is_word_byte bytes ≡ true → is_word bytes ≡ true
unfolding is_word
nonempty_word [] some all = absurd (omega (arith, some))
nonempty_word (byte ∷ bytes) some all = all

pub decimal_is_word : (n : ℕ) → n < 2 ^ 64 → is_word (decimal n) ≡ true
decimal_is_word n few =
    let writes = decimal_writes n few in
    nonempty_word (decimal n) writes.some (numeral_bytes n few)
