-- Made names are words, and no two of them are the same.
use Rattle.std.proofs.Common.{◌≡◌, ℕ, zero, suc, ◌+◌, ◌%◌, ◌^◌, ◌<◌, ◌≤◌, Bool, true, false, List, [], ◌∷◌, ◌++◌, map, bytes_eq, codes, decimal, length, refl, sym, ◌∙◌, ap, arith, length-append}
use Rattle.std.specs.List.{AllByRecursion, list_all, range_with_len}
use Rattle.std.proofs.lemmas.Bool.Decides.{nat_tests}
use Rattle.std.proofs.lemmas.Fmt.{decimal_by_steps, decimal_injective, length-decimal-le_succ}
use Rattle.std.proofs.lemmas.List.{append_cancel_left, append-nil}
use Rattle.std.proofs.lemmas.List.Folds.{list_all-append, list_any-append}
use Rattle.std.proofs.lemmas.Slice.Eq.{bytes_eq-Decides}
use Rattle.sis_base.specs.Written.{is_word, is_word_byte}
use Rattle.circuit_model.specs.Names.{has, all_different}
use Rattle.kiss_format.specs.Reader.{made_names}
use Rattle.sis_base.specs.declared.limits.TheConstants.{MAX_NAME, MAX_PORTS}

digit_byte : (n : ℕ) → n < 10 → is_word_byte (48 + n) ≡ true
digit_byte n few = grind (arith, nat_tests)

pub numeral_bytes : (n : ℕ) → n < 2 ^ 64 → list_all is_word_byte (decimal n) ≡ true
numeral_bytes = decimal_by_steps (λ n digits. list_all is_word_byte digits ≡ true) one more
  where
    one : (n : ℕ) → n < 10 → list_all is_word_byte ((48 + n) ∷ []) ≡ true
    one n few = rw (digit_byte n few) refl

    more : (n : ℕ) (digits : List ℕ) → 10 ≤ n → list_all is_word_byte digits ≡ true → list_all is_word_byte (digits ++ (48 + n % 10) ∷ []) ≡ true
    more n digits large front =
        let last : n % 10 < 10 = omega arith in
        list_all-append is_word_byte digits ((48 + n % 10) ∷ []) ∙ rw (front, digit_byte (n % 10) last) refl

made_is_word : (prefix : List ℕ) (n : ℕ) → is_word prefix ≡ true → n < 2 ^ 64 → is_word (prefix ++ decimal n) ≡ true
unfolding is_word
made_is_word [] n w h = absurd (let no : false ≡ true = w in cc)
made_is_word (byte ∷ bytes) n w h =
    list_all-append is_word_byte (byte ∷ bytes) (decimal n) ∙ rw (w, numeral_bytes n h) refl

-- so many names from a number on
abbrev pub made_from : List ℕ → ℕ → ℕ → List (List ℕ)
made_from prefix first count = map (λ k. prefix ++ decimal k) (range_with_len first count)

pub made_are_words : (prefix : List ℕ) (first count : ℕ) → is_word prefix ≡ true → first + count ≤ MAX_PORTS → AllByRecursion (λ name. is_word name ≡ true) (made_from prefix first count)
made_are_words prefix first zero w h = tt
made_are_words prefix first (suc count) w h =
    (made_is_word prefix first w (omega (arith, h)), made_are_words prefix (first + 1) count w (omega (arith, h)))

pub made_are_short : (prefix : List ℕ) (first count : ℕ) → length prefix ≤ 10 → first + count ≤ MAX_PORTS → AllByRecursion (λ (name : List ℕ). length name ≤ MAX_NAME) (made_from prefix first count)
made_are_short prefix first zero p h = tt
made_are_short prefix first (suc count) p h =
    let digits = length-decimal-le_succ first (omega (arith, h)) in
    (omega (arith, p, digits, length-append prefix (decimal first)), made_are_short prefix (first + 1) count p (omega (arith, h)))

bytes_differ : (xs ys : List ℕ) → (xs ≡ ys → ⊥) → bytes_eq xs ys ≡ false
bytes_differ xs ys apart = by (bytes_eq xs ys) refl
  where
    by : (b : Bool) → bytes_eq xs ys ≡ b → bytes_eq xs ys ≡ false
    by true e = absurd (apart ((bytes_eq-Decides xs ys).0 e))
    by false e = e

numbers_differ : (prefix : List ℕ) (a b : ℕ) → a < b → b < MAX_PORTS → bytes_eq (prefix ++ decimal a) (prefix ++ decimal b) ≡ false
numbers_differ prefix a b less few = bytes_differ (prefix ++ decimal a) (prefix ++ decimal b) apart
  where
    apart : prefix ++ decimal a ≡ prefix ++ decimal b → ⊥
    apart e =
        let same : a ≡ b = decimal_injective a b (omega (arith, less, few)) (omega (arith, few)) (append_cancel_left prefix (decimal a) (decimal b) e) in
        omega (arith, less, same)

later_lack : (prefix : List ℕ) (a first count : ℕ) → a < first → first + count ≤ MAX_PORTS → has (made_from prefix first count) (prefix ++ decimal a) ≡ false
later_lack prefix a first zero less few = refl
later_lack prefix a first (suc count) less few =
    rw (numbers_differ prefix a first less (omega (arith, few)), later_lack prefix a (first + 1) count (omega (arith, less)) (omega (arith, few))) refl

made_differ : (prefix : List ℕ) (others : List (List ℕ)) (first count : ℕ) → first + count ≤ MAX_PORTS → ((k : ℕ) → has others (prefix ++ decimal k) ≡ false) → all_different others ≡ true
    → all_different (made_from prefix first count ++ others) ≡ true
unfolding all_different
made_differ prefix others first zero few apart once = once
made_differ prefix others first (suc count) few apart once =
    let rest = made_from prefix (first + 1) count in
    let name = prefix ++ decimal first in
    let lacks : has (rest ++ others) name ≡ false =
    list_any-append (bytes_eq name) rest others ∙ rw (later_lack prefix first (first + 1) count (omega arith) (omega (arith, few)), apart first) refl in
    rw (lacks, made_differ prefix others (first + 1) count (omega (arith, few)) apart once) refl

outputs_lack : (k first count : ℕ) → has (made_from (codes "OUT_") first count) (codes "IN_" ++ decimal k) ≡ false
outputs_lack k first zero = refl
outputs_lack k first (suc count) = outputs_lack k (first + 1) count

none_once : all_different [] ≡ true
unfolding all_different
none_once = refl

outputs_once : (count : ℕ) → count ≤ MAX_PORTS → all_different (made_names (codes "OUT_") count) ≡ true
outputs_once count few =
    ap all_different (sym (append-nil (made_names (codes "OUT_") count)))
    ∙ made_differ (codes "OUT_") [] 0 count (omega (arith, few)) (λ k. refl) none_once

-- the ports of a machine that is read from a table of its own
pub ports_differ : (inputs outputs : ℕ) → inputs ≤ MAX_PORTS → outputs ≤ MAX_PORTS → all_different (made_names (codes "IN_") inputs ++ made_names (codes "OUT_") outputs) ≡ true
ports_differ inputs outputs few small =
    made_differ (codes "IN_") (made_names (codes "OUT_") outputs) 0 inputs (omega (arith, few)) (λ k. outputs_lack k 0 outputs) (outputs_once outputs small)
