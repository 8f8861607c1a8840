-- What is written as a decimal number is read as the same number.
use Rattle.std.proofs.Common.{◌≡◌, ℕ, ◌+◌, ◌-◌, ◌*◌, ◌/◌, ◌%◌, ◌^◌, ◌<◌, ◌≤◌, ◌==◌, not, true, false, Some, List, [], ◌∷◌, ◌++◌, length, take, drop, decimal, nat_le, nat_lt, refl, ◌∙◌, ap, arith, length-append, Result, Ok, Err, IfOk}
use Rattle.std.specs.List.{list_all, prefix_len, fold}
use Rattle.std.proofs.lemmas.List.Folds.{list_all-append}
use Rattle.std.proofs.lemmas.Fmt.{decimal_by_steps_wide, length-decimal-le_wide}
use Rattle.std.proofs.lemmas.Bool.Decides.{nat_tests}
use Rattle.std.proofs.lemmas.Bool.{and_parts}
use Rattle.std.proofs.Math.Seq.{take-append_seam, drop-append-add}
use Rattle.sis_text.specs.Decimals.{is_digit, number_of, whole_part, fraction_part, are_parts, millionths_of, decimal_of, six_digits, decimal_text}

is_digit_at : (n : ℕ) → n < 10 → is_digit (48 + n) ≡ true
is_digit_at n few = grind (arith, nat_tests)

is_no_point : (byte : ℕ) → is_digit byte ≡ true → (byte == 46) ≡ false
is_no_point byte h = grind (arith, nat_tests)

fold-push : (f : ℕ → ℕ → ℕ) (start last : ℕ) (xs : List ℕ) → fold f start (xs ++ last ∷ []) ≡ f (fold f start xs) last
fold-push f start last [] = refl
fold-push f start last (x ∷ xs) = fold-push f (f start x) last xs

-- digits, at least one, that write a number
record Writes (number : ℕ) (digits : List ℕ) : Type 0 where
  all : list_all is_digit digits ≡ true
  value : number_of digits ≡ number
  some : 0 < length digits

writes_one : (n : ℕ) → n < 10 → Writes n ((48 + n) ∷ [])
unfolding number_of
writes_one n few = record { all = rw (is_digit_at n few) refl; value = omega arith; some = omega arith }

writes_more : (n : ℕ) (digits : List ℕ) → 10 ≤ n → Writes (n / 10) digits → Writes n (digits ++ (48 + n % 10) ∷ [])
unfolding number_of
writes_more n digits large front =
    let last : n % 10 < 10 = omega arith in
    let value : number_of (digits ++ (48 + n % 10) ∷ []) ≡ number_of digits * 10 + (48 + n % 10 - 48) = fold-push (λ number digit. number * 10 + (digit - 48)) 0 (48 + n % 10) digits in
    record {
      all = list_all-append is_digit digits ((48 + n % 10) ∷ []) ∙ rw (front.all, is_digit_at (n % 10) last) refl;
      value = omega (arith, value, front.value);
      some = omega (arith, length-append digits ((48 + n % 10) ∷ []));
    }

decimal_writes : (n : ℕ) → n < 10 ^ 64 → Writes n (decimal n)
decimal_writes = decimal_by_steps_wide (λ n digits. Writes n digits) writes_one writes_more

point_behind : (digits rest : List ℕ) → list_all is_digit digits ≡ true → prefix_len (λ byte. not (byte == 46)) (digits ++ 46 ∷ rest) ≡ length digits
point_behind [] rest all = refl
point_behind (digit ∷ digits) rest all =
    let parts = and_parts (is_digit digit) (list_all is_digit digits) all in
    rw (is_no_point digit parts.0, point_behind digits rest parts.1) (omega arith)

front_is_whole : (digits rest : List ℕ) → list_all is_digit digits ≡ true → whole_part (digits ++ 46 ∷ rest) ≡ digits
unfolding whole_part
front_is_whole digits rest all =
    ap (λ n. take n (digits ++ 46 ∷ rest)) (point_behind digits rest all) ∙ take-append_seam digits (46 ∷ rest)

end_is_fraction : (digits rest : List ℕ) → list_all is_digit digits ≡ true → fraction_part (digits ++ 46 ∷ rest) ≡ rest
unfolding fraction_part
end_is_fraction digits rest all =
    ap (λ (whole : List ℕ). drop (length whole + 1) (digits ++ 46 ∷ rest)) (front_is_whole digits rest all) ∙ drop-append-add digits (46 ∷ rest) 1

six_are_digits : (n : ℕ) → list_all is_digit (six_digits n) ≡ true
unfolding six_digits
six_are_digits n =
    rw (is_digit_at (n / 100000 % 10) (omega arith), is_digit_at (n / 10000 % 10) (omega arith), is_digit_at (n / 1000 % 10) (omega arith), is_digit_at (n / 100 % 10) (omega arith), is_digit_at (n / 10 % 10) (omega arith), is_digit_at (n / 1 % 10) (omega arith)) refl

six_write : (n : ℕ) → n < 1000000 → number_of (six_digits n) ≡ n
unfolding six_digits number_of
six_write n few = omega arith

six_long : (n : ℕ) → length (six_digits n) ≡ 6
unfolding six_digits
six_long n = refl

parts_pass : (whole fraction : List ℕ) → list_all is_digit whole ≡ true → list_all is_digit fraction ≡ true → length whole ≤ 9 → length fraction ≡ 6 → are_parts whole fraction ≡ true
unfolding are_parts
parts_pass whole fraction w f few six =
    let nine : nat_le (length whole) 9 ≡ true = grind (arith, nat_tests) in
    let some : nat_lt 0 (length whole + 6) ≡ true = grind (arith, nat_tests) in
    rw (w, f, nine, six, some) refl

millionths_are : (n : ℕ) → Writes (n / 1000000) (decimal (n / 1000000)) → millionths_of (decimal (n / 1000000)) (six_digits (n % 1000000)) ≡ n
unfolding millionths_of
millionths_are n whole =
    let front = whole.value in
    let behind = six_write (n % 1000000) (omega arith) in
    let scale : 10 ^ (6 - length (six_digits (n % 1000000))) ≡ 1 = ap (λ (len : ℕ). 10 ^ (6 - len)) (six_long (n % 1000000)) in
    rw (front, behind, scale) (omega arith)

parts_are_read : (whole fraction : List ℕ) (n : ℕ) → list_all is_digit whole ≡ true → are_parts whole fraction ≡ true → millionths_of whole fraction ≡ n → decimal_of (whole ++ 46 ∷ fraction) ≡ Some n
unfolding decimal_of
parts_are_read whole fraction n digits pass value =
    rw (front_is_whole whole fraction digits, end_is_fraction whole fraction digits, pass, value) refl

pub text_is_read : (n : ℕ) → n < 10 ^ 15 → decimal_of (decimal_text n) ≡ Some n
unfolding decimal_text
text_is_read n few =
    let whole = decimal_writes (n / 1000000) (omega arith) in
    let nine : length (decimal (n / 1000000)) ≤ 9 = length-decimal-le_wide 9 (n / 1000000) (omega arith) (omega arith) (omega arith) in
    let pass = parts_pass (decimal (n / 1000000)) (six_digits (n % 1000000)) whole.all (six_are_digits (n % 1000000)) nine (six_long (n % 1000000)) in
    parts_are_read (decimal (n / 1000000)) (six_digits (n % 1000000)) n whole.all pass (millionths_are n whole)

pub printed : {A E : Type 0} (text : A → List ℕ) (r : Result A E) (n : ℕ) → IfOk r (λ a. text a ≡ decimal_text n) → IfOk r (λ a. n < 10 ^ 15 → decimal_of (text a) ≡ Some n)
printed text (Ok a) n e = λ few. ap decimal_of e ∙ text_is_read n few
printed text (Err x) n e = tt
