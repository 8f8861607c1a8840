-- Names of a prefix and a number that are free: so many, all words, all different, none a port's.
use Rattle.std.proofs.Common.{◌≡◌, ℕ, zero, suc, ◌+◌, ◌%◌, ◌^◌, ◌<◌, ◌≤◌, Bool, true, false, not, cond, List, [], ◌∷◌, ◌++◌, map, take, filter, length, bytes_eq, decimal, refl, sym, ap, ◌∙◌, subst, inl, inr, arith}
use Rattle.std.specs.Prelude.{codes}
use Rattle.std.specs.List.{AllByRecursion, list_all, range_with_len}
use Rattle.std.proofs.lemmas.Cmp.{nat_list_eq_equiv}
use Rattle.std.proofs.lemmas.Bool.{false≢true, not-true, or_cases}
use Rattle.std.proofs.lemmas.Bool.Decides.{nat_tests}
use Rattle.std.proofs.lemmas.Fmt.{decimal_by_steps, decimal_injective}
use Rattle.std.proofs.lemmas.List.{append_cancel_left, length-take-le}
use Rattle.std.proofs.lemmas.List.Filters.{length-filter_both}
use Rattle.std.proofs.lemmas.List.Folds.{list_all-append}
use Rattle.std.proofs.lemmas.List.FromFn.{length-map-range_with_len}
use Rattle.std.proofs.lemmas.Map.Made.{length-le_from_is_member}
use Rattle.sis_base.specs.Written.{is_word, is_word_byte}
use Rattle.circuit_model.specs.Names.{has, all_different}
use Rattle.circuit_laws.proofs.Names.{name_not, same_name, all_has, has_head, has_tail, has_not, different_cons, different_head, different_tail, different_none}
use Rattle.state_code.specs.Naming.{numbered, unused, free_names}
use Rattle.circuit_order.proofs.Orders.{distinct}

-- numbers make words, and different ones

digit_byte : (n : ℕ) → n < 10 → is_word_byte (48 + n) ≡ true
digit_byte n few = grind (arith, nat_tests)

numeral_bytes : (n : ℕ) → n < 2 ^ 64 → list_all is_word_byte (decimal n) ≡ true
numeral_bytes = decimal_by_steps (λ n digits. list_all is_word_byte digits ≡ true) one more
  where
    one : (n : ℕ) → n < 10 → list_all is_word_byte ((48 + n) ∷ []) ≡ true
    one n few = rw (digit_byte n few) refl

    more : (n : ℕ) (digits : List ℕ) → 10 ≤ n → list_all is_word_byte digits ≡ true
        → list_all is_word_byte (digits ++ (48 + n % 10) ∷ []) ≡ true
    more n digits large front =
        let last : n % 10 < 10 = omega arith in
        list_all-append is_word_byte digits ((48 + n % 10) ∷ [])
        ∙ rw (front, digit_byte (n % 10) last) refl

pub numbered_word : (prefix : List ℕ) (n : ℕ) → is_word prefix ≡ true → n < 2 ^ 64
    → is_word (numbered prefix n) ≡ true
unfolding is_word numbered
numbered_word [] n w h = absurd (false≢true w)
numbered_word (byte ∷ bytes) n w h = list_all-append is_word_byte (byte ∷ bytes) (decimal n)
    ∙ rw (w, numeral_bytes n h) refl

numbers_apart : (prefix : List ℕ) (a b : ℕ) → a < b → b < 2 ^ 64
    → bytes_eq (numbered prefix a) (numbered prefix b) ≡ false
unfolding numbered
numbers_apart prefix a b less few =
    name_not (prefix ++ decimal a) (prefix ++ decimal b) (λ e.
    let same : a ≡ b = decimal_injective a b (omega arith) few
    (append_cancel_left prefix (decimal a) (decimal b) e) in omega arith)

later_lack : (prefix : List ℕ) (a first count : ℕ) → a < first → first + count ≤ 2 ^ 64
    → has (map (numbered prefix) (range_with_len first count)) (numbered prefix a) ≡ false
later_lack prefix a first zero less few = refl
later_lack prefix a first (suc count) less few =
    rw (
      numbers_apart prefix a first less (omega arith),
      later_lack prefix a (first + 1) count
          (omega arith) (omega arith),
    ) refl

all_numbers_differ : (prefix : List ℕ) (first count : ℕ) → first + count ≤ 2 ^ 64
    → all_different (map (numbered prefix) (range_with_len first count)) ≡ true
all_numbers_differ prefix first zero few = different_none
all_numbers_differ prefix first (suc count) few =
    different_cons (numbered prefix first)
    (map (numbered prefix) (range_with_len (first + 1) count))
    (later_lack prefix first (first + 1) count (omega arith) (omega arith))
    (all_numbers_differ prefix (first + 1) count (omega arith))

-- parts of a list

has_filter : (test : List ℕ → Bool) (names : List (List ℕ)) (name : List ℕ)
    → has (filter test names) name ≡ true → has names name ≡ true
has_filter test [] name h = h
has_filter test (first ∷ names) name h = cases (test first) h (has_filter test names name)
  where
    cases : (b : Bool) → has (cond b (first ∷ filter test names) (filter test names)) name ≡ true
        → (has (filter test names) name ≡ true → has names name ≡ true)
        → has (first ∷ names) name ≡ true
    cases true k rest =
        elim (or_cases (bytes_eq name first) (has (filter test names) name) k)
        as (λ _. has (first ∷ names) name ≡ true) [
          | inl e ↦ subst (λ (n : List ℕ). has (first ∷ names) n ≡ true)
              (sym (same_name name first e)) (has_head first names)
          | inr m ↦ has_tail first names name (rest m)
        ]
    cases false k rest = has_tail first names name (rest k)

different_filter : (test : List ℕ → Bool) (names : List (List ℕ)) → all_different names ≡ true
    → all_different (filter test names) ≡ true
different_filter test [] h = h
different_filter test (first ∷ names) h =
    cases (test first) (different_filter test names (different_tail first names h))
  where
    cases : (b : Bool) → all_different (filter test names) ≡ true
        → all_different (cond b (first ∷ filter test names) (filter test names)) ≡ true
    cases true rest =
        different_cons first (filter test names)
        (has_not (filter test names) first (λ among. false≢true (sym (different_head first names h)
        ∙ has_filter test names first among))) rest
    cases false rest = rest

has_take : (count : ℕ) (names : List (List ℕ)) (name : List ℕ) → has (take count names) name ≡ true
    → has names name ≡ true
has_take zero names name h = absurd (false≢true h)
has_take (suc count) [] name h = absurd (false≢true h)
has_take (suc count) (first ∷ names) name h =
    elim (or_cases (bytes_eq name first) (has (take count names) name) h)
    as (λ _. has (first ∷ names) name ≡ true) [
      | inl e ↦ subst (λ (n : List ℕ). has (first ∷ names) n ≡ true) (sym (same_name name first e))
          (has_head first names)
      | inr m ↦ has_tail first names name (has_take count names name m)
    ]

different_take : (count : ℕ) (names : List (List ℕ)) → all_different names ≡ true
    → all_different (take count names) ≡ true
different_take zero names h = different_none
different_take (suc count) [] h = different_none
different_take (suc count) (first ∷ names) h =
    different_cons first (take count names)
    (has_not (take count names) first (λ among. false≢true (sym (different_head first names h)
    ∙ has_take count names first among)))
    (different_take count names (different_tail first names h))

-- what holds of each number's name that passes

each_kept : (P : List ℕ → Type 0) (prefix : List ℕ) (test : List ℕ → Bool) (first count : ℕ)
    → ((n : ℕ) → n < first + count → test (numbered prefix n) ≡ true → P (numbered prefix n))
    → AllByRecursion P (filter test (map (numbered prefix) (range_with_len first count)))
each_kept P prefix test first zero h = tt
each_kept P prefix test first (suc count) h =
    cases (test (numbered prefix first)) refl (each_kept P prefix test (first + 1) count
    (λ n below passes. h n (omega arith) passes))
  where
    cases : (b : Bool) → test (numbered prefix first) ≡ b
        → AllByRecursion P (filter test (map (numbered prefix) (range_with_len (first + 1) count)))
        → AllByRecursion P (cond b
        (numbered prefix first ∷ filter test
        (map (numbered prefix) (range_with_len (first + 1) count)))
        (filter test (map (numbered prefix) (range_with_len (first + 1) count))))
    cases true passes others = (h first (omega arith) passes, others)
    cases false fails others = others

all_take : (P : List ℕ → Type 0) (count : ℕ) (names : List (List ℕ)) → AllByRecursion P names
    → AllByRecursion P (take count names)
all_take P zero names h = tt
all_take P (suc count) [] h = tt
all_take P (suc count) (first ∷ names) h = (h.0, all_take P count names h.1)

-- so many are free

passed : (test : List ℕ → Bool) (names : List (List ℕ)) (name : List ℕ)
    → has (filter test names) name ≡ true → test name ≡ true
passed test [] name h = absurd (false≢true h)
passed test (first ∷ names) name h = cases (test first) refl h (passed test names name)
  where
    cases : (b : Bool) → test first ≡ b
        → has (cond b (first ∷ filter test names) (filter test names)) name ≡ true
        → (has (filter test names) name ≡ true → test name ≡ true) → test name ≡ true
    cases true is k rest =
        elim (or_cases (bytes_eq name first) (has (filter test names) name) k)
        as (λ _. test name ≡ true) [
          | inl e ↦ ap test (same_name name first e) ∙ is
          | inr m ↦ rest m
        ]
    cases false is k rest = rest k

pub enough_free : (prefix : List ℕ) (used : List (List ℕ)) (count : ℕ)
    → count + length used ≤ 2 ^ 64 → count ≤ length (unused prefix used (count + length used))
enough_free prefix used count few =
    let all : List (List ℕ) = map (numbered prefix) (range_with_len 0 (count + length used)) in
    let both : length (filter (λ name. not (has used name)) all) + length (filter (has used) all)
    ≡ length all =
    length-filter_both (λ name. not (has used name)) (has used) (λ name. twice (has used name))
    all in
    let long : length all ≡ count + length used =
    length-map-range_with_len (numbered prefix) 0 (count + length used) in
    let different : all_different (filter (has used) all) ≡ true =
    different_filter (has used) all (all_numbers_differ prefix 0 (count + length used)
    (omega arith)) in
    let fewer : length (filter (has used) all) ≤ length used =
    length-le_from_is_member nat_list_eq_equiv (filter (has used) all) used
    (distinct (filter (has used) all) different) (passed (has used) all) in
    omega arith
  where
    twice : (b : Bool) → b ≡ not (not b)
    twice true = refl
    twice false = refl

pub length-free : (prefix : List ℕ) (used : List (List ℕ)) (count : ℕ)
    → count + length used ≤ 2 ^ 64 → length (free_names prefix used count) ≡ count
unfolding free_names
length-free prefix used count few = length-take-le count (unused prefix used (count + length used))
    (enough_free prefix used count few)

pub each_free : (P : List ℕ → Type 0) (prefix : List ℕ) (used : List (List ℕ)) (count : ℕ)
    → count + length used ≤ 2 ^ 64
    → ((n : ℕ) → n < 2 ^ 64 → has used (numbered prefix n) ≡ false → P (numbered prefix n))
    → AllByRecursion P (free_names prefix used count)
unfolding free_names
each_free P prefix used count few h =
    all_take P count (unused prefix used (count + length used))
    (each_kept P prefix (λ name. not (has used name)) 0 (count + length used)
    (λ n below free. h n (omega arith) (not-true (has used (numbered prefix n)) free)))

pub free_differ : (prefix : List ℕ) (used : List (List ℕ)) (count : ℕ)
    → count + length used ≤ 2 ^ 64 → all_different (free_names prefix used count) ≡ true
unfolding free_names
free_differ prefix used count few =
    different_take count (unused prefix used (count + length used))
    (different_filter (λ name. not (has used name))
    (map (numbered prefix) (range_with_len 0 (count + length used)))
    (all_numbers_differ prefix 0 (count + length used) (omega arith)))

pub free_unused : (prefix : List ℕ) (used : List (List ℕ)) (count : ℕ)
    → count + length used ≤ 2 ^ 64 → (name : List ℕ)
    → has (free_names prefix used count) name ≡ true → has used name ≡ false
free_unused prefix used count few name among =
    all_has (λ n. has used n ≡ false) (free_names prefix used count)
    (each_free (λ n. has used n ≡ false) prefix used count few (λ n below free. free)) name
    among

-- state bits and next ones

heads : (x y : ℕ) (xs ys : List ℕ) → x ∷ xs ≡ y ∷ ys → x ≡ y
heads x y xs ys e = cc

heads_apart : (a b : ℕ) → numbered (codes "st_") a ≡ numbered (codes "nx_") b → ⊥
unfolding numbered
heads_apart a b e = let first : 115 ≡ 110 =
    heads 115 110 (codes "t_" ++ decimal a) (codes "x_" ++ decimal b) e in omega (arith, first)

pub states_nexts : (used : List (List ℕ)) (count : ℕ) → count + length used ≤ 2 ^ 64
    → (name : List ℕ) → has (free_names (codes "st_") used count) name ≡ true
    → has (free_names (codes "nx_") used count) name ≡ true → ⊥
states_nexts used count few name state next =
    let (a, is) = all_has (λ n. (number : ℕ) × (n ≡ numbered (codes "st_") number))
    (free_names (codes "st_") used count)
    (each_free (λ n. (number : ℕ) × (n ≡ numbered (codes "st_") number)) (codes "st_") used count
    few (λ n below free. (n, refl))) name state in
    let (b, at) = all_has (λ n. (number : ℕ) × (n ≡ numbered (codes "nx_") number))
    (free_names (codes "nx_") used count)
    (each_free (λ n. (number : ℕ) × (n ≡ numbered (codes "nx_") number)) (codes "nx_") used count
    few (λ n below free. (n, refl))) name next in
    heads_apart a b (sym is ∙ at)
