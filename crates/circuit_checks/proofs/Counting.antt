-- How often a name occurs in a list.
use Rattle.std.proofs.Common.{◌≡◌, ℕ, ◌+◌, ◌<◌, Bool, true, false, not, ◌&&◌, ◌||◌, cond, if◌then◌else◌, List, [], ◌∷◌, ◌++◌, length, get_or, take, refl, sym, ap, ◌∙◌, arith, inl, inr, ◌⊎◌, lt-ltb, le-ltb, ltb, ltb-false, count_by}
use Rattle.std.specs.Prelude.{bytes_eq}
use Rattle.std.proofs.lemmas.Bool.{true≢false, cases_Bool}
use Rattle.std.proofs.lemmas.List.{take_more}
use Rattle.std.proofs.lemmas.List.Sums.{sum_by-cons, sum_by_push}
use Rattle.circuit_model.specs.Names.{has, all_different}
use Rattle.circuit_checks.specs.NameChecks.{is_twice}
use Rattle.circuit_checks.specs.Sets.{Alike, with_name}
use Rattle.circuit_checks.proofs.Naming.{same_name, name_itself, has_with}

one : Bool → ℕ
one b = cond b 1 0

count-cons : (query name : List ℕ) (names : List (List ℕ)) → count_by (bytes_eq query) (name ∷ names) ≡ one (bytes_eq query name) + count_by (bytes_eq query) names
unfolding one
count-cons query name names = sum_by-cons (λ (n : List ℕ). cond {A = ℕ} (bytes_eq query n) 1 0) name names

one_yes : (b : Bool) → b ≡ true → one b ≡ 1
unfolding one
one_yes true e = refl
one_yes false e = absurd (true≢false (sym e))

one_not : (b : Bool) → b ≡ false → one b ≡ 0
unfolding one
one_not true e = absurd (true≢false e)
one_not false e = refl

count_some : (names : List (List ℕ)) (query : List ℕ) → has names query ≡ true → 0 < count_by (bytes_eq query) names
count_some [] query h = absurd (true≢false (sym h))
count_some (name ∷ names) query h = cases (bytes_eq query name) refl (count_some names query)
  where
    cases : (b : Bool) → bytes_eq query name ≡ b → (has names query ≡ true → 0 < count_by (bytes_eq query) names) → 0 < count_by (bytes_eq query) (name ∷ names)
    cases true e rec = omega (arith, count-cons query name names, one_yes (bytes_eq query name) e)
    cases false e rec = omega (arith, count-cons query name names, rec (sym (ap (λ (b : Bool). b || has names query) e) ∙ h))

count_none : (names : List (List ℕ)) (query : List ℕ) → has names query ≡ false → count_by (bytes_eq query) names ≡ 0
count_none [] query h = refl
count_none (name ∷ names) query h = cases (bytes_eq query name) refl (count_none names query)
  where
    cases : (b : Bool) → bytes_eq query name ≡ b → (has names query ≡ false → count_by (bytes_eq query) names ≡ 0) → count_by (bytes_eq query) (name ∷ names) ≡ 0
    cases true e rec = absurd (true≢false (sym (ap (λ (b : Bool). b || has names query) e) ∙ h))
    cases false e rec =
        omega (arith, count-cons query name names, one_not (bytes_eq query name) e, rec (sym (ap (λ (b : Bool). b || has names query) e) ∙ h))

-- a name more
twice_push : (names : List (List ℕ)) (name query : List ℕ) → is_twice (names ++ name ∷ []) query ≡ (is_twice names query || (bytes_eq query name && has names query))
unfolding is_twice
twice_push names name query = cases (bytes_eq query name) (has names query) refl refl
  where
    push : count_by (bytes_eq query) (names ++ name ∷ []) ≡ count_by (bytes_eq query) names + one (bytes_eq query name)
    push = by (sum_by_push (λ (n : List ℕ). cond {A = ℕ} (bytes_eq query n) 1 0) names name)
      where
        by : count_by (bytes_eq query) (names ++ name ∷ []) ≡ count_by (bytes_eq query) names + cond {A = ℕ} (bytes_eq query name) 1 0 → count_by (bytes_eq query) (names ++ name ∷ []) ≡ count_by (bytes_eq query) names + one (bytes_eq query name)
        by e = e ∙ ap (λ (n : ℕ). count_by (bytes_eq query) names + n) (one_is (bytes_eq query name))
          where
            one_is : (b : Bool) → cond {A = ℕ} b 1 0 ≡ one b
            one_is true = sym (one_yes true refl)
            one_is false = sym (one_not false refl)

    or_false : (b : Bool) → b ≡ (b || false)
    or_false true = refl
    or_false false = refl

    or_true : (b : Bool) → true ≡ (b || true)
    or_true true = refl
    or_true false = refl

    cases : (a b : Bool) → bytes_eq query name ≡ a → has names query ≡ b
        → ltb 1 (count_by (bytes_eq query) (names ++ name ∷ [])) ≡ (ltb 1 (count_by (bytes_eq query) names) || (a && b))
    cases false b e h =
        let same : count_by (bytes_eq query) (names ++ name ∷ []) ≡ count_by (bytes_eq query) names = omega (arith, push, one_not (bytes_eq query name) e) in
        ap (λ (n : ℕ). ltb 1 n) same ∙ or_false (ltb 1 (count_by (bytes_eq query) names))
    cases true true e h =
        lt-ltb 1 (count_by (bytes_eq query) (names ++ name ∷ [])) (omega (arith, push, one_yes (bytes_eq query name) e, count_some names query h))
        ∙ or_true (ltb 1 (count_by (bytes_eq query) names))
    cases true false e h =
        le-ltb 1 (count_by (bytes_eq query) (names ++ name ∷ [])) (omega (arith, push, one_yes (bytes_eq query name) e, count_none names query h))
        ∙ sym (ap (λ (b : Bool). b || false) (le-ltb 1 (count_by (bytes_eq query) names) (omega (arith, count_none names query h))))

-- the loop that keeps those that came again
pub twice_more : (names : List (List ℕ)) (i : ℕ) (name : List ℕ) (seen again after : List (List ℕ)) → i < length names → name ≡ get_or names i name
    → Alike seen (take i names) → ((query : List ℕ) → has again query ≡ is_twice (take i names) query)
    → after ≡ (if has seen name then with_name again name else again) → (query : List ℕ) → has after query ≡ is_twice (take (i + 1) names) query
twice_more names i name seen again after lt is alike so e query =
    ap (λ (set : List (List ℕ)). has set query) e
    ∙ here (has seen name) refl
    ∙ ap (λ (b : Bool). b || (bytes_eq query name && has (take i names) query)) (so query)
    ∙ sym (twice_push (take i names) name query)
    ∙ ap (λ (n : List ℕ). is_twice (take i names ++ n ∷ []) query) is
    ∙ ap (λ (some : List (List ℕ)). is_twice some query) (sym (take_more names i name lt))
  where
    both : (a b : Bool) → bytes_eq query name ≡ a → has (take i names) name ≡ b → (a && has (take i names) query) ≡ (a && b)
    both false b f h = refl
    both true b f h = ap (λ (n : List ℕ). has (take i names) n) (same_name query name f) ∙ h

    ends : (a : Bool) → a ≡ (a && true)
    ends true = refl
    ends false = refl

    none : (a c : Bool) → c ≡ (c || (a && false))
    none true true = refl
    none true false = refl
    none false true = refl
    none false false = refl

    here : (b : Bool) → has seen name ≡ b → has (if b then with_name again name else again) query ≡ (has again query || (bytes_eq query name && has (take i names) query))
    here true h =
        has_with again name query
        ∙ ap (λ (c : Bool). has again query || c) (ends (bytes_eq query name) ∙ sym (both (bytes_eq query name) true refl (sym (alike name) ∙ h)))
    here false h =
        none (bytes_eq query name) (has again query)
        ∙ ap (λ (c : Bool). has again query || c) (sym (both (bytes_eq query name) false refl (sym (alike name) ∙ h)))

pub none_twice : (query : List ℕ) → is_twice [] query ≡ false
unfolding is_twice
none_twice query = le-ltb 1 0 (omega arith)

-- names are all different exactly if none occurs twice
not_first : (name : List ℕ) (names : List (List ℕ)) → is_twice (name ∷ names) name ≡ false → has names name ≡ false
unfolding is_twice
not_first name names h = by (cases_Bool (has names name))
  where
    by : (has names name ≡ true) ⊎ (has names name ≡ false) → has names name ≡ false
    by (inl e) = absurd (omega (arith, ltb-false 1 (count_by (bytes_eq name) (name ∷ names)) h, count-cons name name names, one_yes (bytes_eq name name) (name_itself name), count_some names name e))
    by (inr e) = e

not_later : (query name : List ℕ) (names : List (List ℕ)) → is_twice (name ∷ names) query ≡ false → is_twice names query ≡ false
unfolding is_twice
not_later query name names h =
    le-ltb 1 (count_by (bytes_eq query) names) (omega (arith, ltb-false 1 (count_by (bytes_eq query) (name ∷ names)) h, count-cons query name names))

has_later : (query name : List ℕ) (names : List (List ℕ)) → has names query ≡ true → has (name ∷ names) query ≡ true
has_later query name names h = by (bytes_eq query name)
  where
    by : (b : Bool) → (b || has names query) ≡ true
    by true = refl
    by false = h

pub different_from_count : (names : List (List ℕ)) → ((query : List ℕ) → has names query ≡ true → is_twice names query ≡ false) → all_different names ≡ true
unfolding all_different
different_from_count [] h = refl
different_from_count (name ∷ names) h =
    rw (not_first name names (h name (ap (λ (b : Bool). b || has names name) (name_itself name))))
    (different_from_count names (λ query m. not_later query name names (h query (has_later query name names m))))

pub first_different : (name : List ℕ) (names : List (List ℕ)) → all_different (name ∷ names) ≡ true → has names name ≡ false
unfolding all_different
first_different name names h = by (has names name) h
  where
    by : (b : Bool) → (not b && all_different names) ≡ true → b ≡ false
    by true e = absurd (true≢false (sym e))
    by false e = refl

pub rest_different : (name : List ℕ) (names : List (List ℕ)) → all_different (name ∷ names) ≡ true → all_different names ≡ true
unfolding all_different
rest_different name names h = by (has names name) h
  where
    by : (b : Bool) → (not b && all_different names) ≡ true → all_different names ≡ true
    by true e = absurd (true≢false (sym e))
    by false e = e

pub count_from_different : (names : List (List ℕ)) → all_different names ≡ true → (query : List ℕ) → is_twice names query ≡ false
unfolding is_twice
count_from_different [] h query = none_twice query
count_from_different (name ∷ names) h query =
    cases (bytes_eq query name) refl (count_from_different names (rest_different name names h) query)
  where
    cases : (b : Bool) → bytes_eq query name ≡ b → ltb 1 (count_by (bytes_eq query) names) ≡ false → ltb 1 (count_by (bytes_eq query) (name ∷ names)) ≡ false
    cases true e rec =
        let none = count_none names query (ap (λ (n : List ℕ). has names n) (same_name query name e) ∙ first_different name names h) in
        le-ltb 1 (count_by (bytes_eq query) (name ∷ names)) (omega (arith, count-cons query name names, one_yes (bytes_eq query name) e, none))
    cases false e rec =
        le-ltb 1 (count_by (bytes_eq query) (name ∷ names)) (omega (arith, count-cons query name names, one_not (bytes_eq query name) e, ltb-false 1 (count_by (bytes_eq query) names) rec))
