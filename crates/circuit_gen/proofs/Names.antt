-- Signals of different numbers have different names, and these are words.
use Rattle.std.proofs.Common.{◌≡◌, ℕ, zero, suc, ◌+◌, ◌-◌, ◌%◌, ◌^◌, ◌<◌, ◌≤◌, Bool, true, false, List, [], ◌∷◌, ◌++◌, map, bytes_eq, decimal, refl, sym, ap, ◌∙◌, inl, inr, arith}
use Rattle.std.specs.Prelude.{nat_lt}
use Rattle.std.specs.List.{AllByRecursion, list_all, range_with_len}
use Rattle.std.proofs.lemmas.Bool.{cases_eq, or_left, or_right, or_from}
use Rattle.std.proofs.lemmas.Bool.Decides.{nat_tests}
use Rattle.std.proofs.lemmas.Fmt.{decimal_by_steps, decimal_injective}
use Rattle.std.proofs.lemmas.List.Folds.{list_all-append}
use Rattle.sis_base.specs.Written.{is_word, is_word_byte}
use Rattle.circuit_model.specs.Names.{has, all_different}
use Rattle.circuit_laws.proofs.Names.{name_is, name_not, different_cons, different_none}
use Rattle.circuit_gen.specs.Generated.{signal, signals}

-- the three kinds of signals
data Kind (number : ℕ) : Type 0 where
  of_input : number < 16 → signal number ≡ 105 ∷ decimal number → Kind number
  of_latch : 16 ≤ number → number < 24 → signal number ≡ 108 ∷ decimal (number - 16) → Kind number
  of_table : 24 ≤ number → signal number ≡ 116 ∷ decimal (number - 24) → Kind number

less : (a b : ℕ) → nat_lt a b ≡ true → a < b
less a b is = grind (arith, nat_tests)

not_less : (a b : ℕ) → nat_lt a b ≡ false → b ≤ a
not_less a b is = grind (arith, nat_tests)

kind_of : (number : ℕ) → Kind number
unfolding signal
kind_of number = first (nat_lt number 16) refl
  where
    second : nat_lt number 16 ≡ false → (b : Bool) → nat_lt number 24 ≡ b → Kind number
    second over true is = of_latch (not_less number 16 over) (less number 24 is) (rw (over, is) refl)
    second over false is = of_table (not_less number 24 is) (rw (over, is) refl)

    first : (b : Bool) → nat_lt number 16 ≡ b → Kind number
    first true is = of_input (less number 16 is) (rw is refl)
    first false is = second is (nat_lt number 24) refl

heads : (x y : ℕ) (xs ys : List ℕ) → x ∷ xs ≡ y ∷ ys → x ≡ y
heads x y xs ys e = cc

tails : (x y : ℕ) (xs ys : List ℕ) → x ∷ xs ≡ y ∷ ys → xs ≡ ys
tails x y xs ys e = cc

module _ (a b : ℕ) (few : a < 2 ^ 40) (small : b < 2 ^ 40) (same : signal a ≡ signal b) where
  apart : (x y : ℕ) (xs ys : List ℕ) → signal a ≡ x ∷ xs → signal b ≡ y ∷ ys → (x ≡ y → ⊥) → a ≡ b
  apart x y xs ys one other differ = absurd (differ (heads x y xs ys (sym one ∙ (same ∙ other))))

  joined : (x m n : ℕ) → m < 2 ^ 64 → n < 2 ^ 64 → signal a ≡ x ∷ decimal m → signal b ≡ x ∷ decimal n → m ≡ n
  joined x m n low high one other = decimal_injective m n low high (tails x x (decimal m) (decimal n) (sym one ∙ (same ∙ other)))

  by_kinds : Kind a → Kind b → a ≡ b
  by_kinds (of_input low one) (of_input high other) = joined 105 a b (omega arith) (omega arith) one other
  by_kinds (of_input low one) (of_latch high most other) = apart 105 108 _ _ one other (λ e. omega (arith, e))
  by_kinds (of_input low one) (of_table high other) = apart 105 116 _ _ one other (λ e. omega (arith, e))
  by_kinds (of_latch low most one) (of_input high other) = apart 108 105 _ _ one other (λ e. omega (arith, e))
  by_kinds (of_latch low most one) (of_latch high much other) =
      let e = joined 108 (a - 16) (b - 16) (omega arith) (omega arith) one other in omega arith
  by_kinds (of_latch low most one) (of_table high other) = apart 108 116 _ _ one other (λ e. omega (arith, e))
  by_kinds (of_table low one) (of_input high other) = apart 116 105 _ _ one other (λ e. omega (arith, e))
  by_kinds (of_table low one) (of_latch high most other) = apart 116 108 _ _ one other (λ e. omega (arith, e))
  by_kinds (of_table low one) (of_table high other) =
      let e = joined 116 (a - 24) (b - 24) (omega arith) (omega arith) one other in omega arith

pub same_number : (a b : ℕ) → a < 2 ^ 40 → b < 2 ^ 40 → signal a ≡ signal b → a ≡ b
same_number a b few small same = by_kinds a b few small same (kind_of a) (kind_of b)

pub signals_apart : (a b : ℕ) → a < 2 ^ 40 → b < 2 ^ 40 → (a ≡ b → ⊥) → bytes_eq (signal a) (signal b) ≡ false
signals_apart a b few small differ = name_not (signal a) (signal b) (λ same. differ (same_number a b few small same))

-- words: a letter, then digits
digit_byte : (n : ℕ) → n < 10 → is_word_byte (48 + n) ≡ true
digit_byte n few = grind (arith, nat_tests)

digits_bytes : (n : ℕ) → n < 2 ^ 64 → list_all is_word_byte (decimal n) ≡ true
digits_bytes = decimal_by_steps (λ n digits. list_all is_word_byte digits ≡ true) one more
  where
    one : (n : ℕ) → n < 10 → list_all is_word_byte ((48 + n) ∷ []) ≡ true
    one n few = rw (digit_byte n few) refl

    more : (n : ℕ) (digits : List ℕ) → 10 ≤ n → list_all is_word_byte digits ≡ true → list_all is_word_byte (digits ++ (48 + n % 10) ∷ []) ≡ true
    more n digits large front =
        let last : n % 10 < 10 = omega arith in
        list_all-append is_word_byte digits ((48 + n % 10) ∷ []) ∙ rw (front, digit_byte (n % 10) last) refl

lettered : (letter n : ℕ) (name : List ℕ) → is_word_byte letter ≡ true → n < 2 ^ 64 → name ≡ letter ∷ decimal n → is_word name ≡ true
unfolding is_word
lettered letter n name good few e = rw e (rw (good, digits_bytes n few) refl)

pub signal_word : (number : ℕ) → number < 2 ^ 40 → is_word (signal number) ≡ true
signal_word number few = by_kind (kind_of number)
  where
    by_kind : Kind number → is_word (signal number) ≡ true
    by_kind (of_input low e) = lettered 105 number (signal number) refl (omega arith) e
    by_kind (of_latch low most e) = lettered 108 (number - 16) (signal number) refl (omega arith) e
    by_kind (of_table low e) = lettered 116 (number - 24) (signal number) refl (omega arith) e

-- which signals are among those from a number on, and that none is there twice
lacks_before : (number first count : ℕ) → number < first → first + count ≤ 2 ^ 40 → has (signals first count) (signal number) ≡ false
lacks_before number first zero before few = refl
lacks_before number first (suc count) before few =
    or_from (bytes_eq (signal number) (signal first)) (has (signals (first + 1) count) (signal number))
    (signals_apart number first (omega arith) (omega arith) (λ e. omega (arith, e)))
    (lacks_before number (first + 1) count (omega arith) (omega arith))

pub signals_once : (first count : ℕ) → first + count ≤ 2 ^ 40 → all_different (signals first count) ≡ true
signals_once first zero few = different_none
signals_once first (suc count) few =
    different_cons (signal first) (signals (first + 1) count) (lacks_before first (first + 1) count (omega arith) (omega arith))
    (signals_once (first + 1) count (omega arith))

pub has_signal : (number first count : ℕ) → first ≤ number → number < first + count → has (signals first count) (signal number) ≡ true
has_signal number first zero from below = absurd (omega arith)
has_signal number first (suc count) from below =
    elim (cases_eq number first) as (λ _. has (signals first (suc count)) (signal number) ≡ true) [
      | inl here ↦ or_left (bytes_eq (signal number) (signal first)) (has (signals (first + 1) count) (signal number)) (name_is (signal number) (signal first) (ap signal here))
      | inr other ↦ or_right (bytes_eq (signal number) (signal first)) (has (signals (first + 1) count) (signal number)) (has_signal number (first + 1) count (omega arith) (omega arith))
    ]

-- signals one after the other
pub signals_joined : (first a b : ℕ) → signals first a ++ signals (first + a) b ≡ signals first (a + b)
signals_joined first zero b =
    let here : first + 0 ≡ first = omega arith in
    let count : b ≡ 0 + b = omega arith in
    ap (λ k. signals k b) here ∙ ap (signals first) count
signals_joined first (suc a) b =
    let here : first + suc a ≡ (first + 1) + a = omega arith in
    let count : suc (a + b) ≡ suc a + b = omega arith in
    ap (λ (rest : List (List ℕ)). signal first ∷ rest) (ap (λ k. signals (first + 1) a ++ signals k b) here ∙ signals_joined (first + 1) a b)
    ∙ ap (signals first) count

-- what holds of each thing that is made of numbers
pub each_made : {X : Type 0} (P : X → Type 0) (f : ℕ → X) (first count : ℕ) → ((number : ℕ) → first ≤ number → number < first + count → P (f number))
    → AllByRecursion P (map f (range_with_len first count))
each_made P f first zero h = tt
each_made P f first (suc count) h =
    (h first (omega arith) (omega arith), each_made P f (first + 1) count (λ number from below. h number (omega arith) (omega arith)))
