-- The states that rows name, and their places: each is named first where its place is the number of those before it.
use Rattle.std.proofs.Common.{◌≡◌, ℕ, zero, suc, ◌+◌, ◌<◌, ◌≤◌, ◌==◌, Bool, true, false, not, ◌||◌, Some, List, [], ◌∷◌, ◌++◌, length, bytes_eq, option_to_list, refl, sym, ◌∙◌, ap, arith, length-append, if◌then◌else◌}
use Rattle.std.specs.List.{AllByRecursion, list_any, filter, range_with_len, position_or_len}
use Rattle.std.proofs.lemmas.Bool.Decides.{nat_tests}
use Rattle.std.proofs.lemmas.List.Folds.{position_or_len_push}
use Rattle.std.proofs.lemmas.List.Elements.{filter-append}
use Rattle.std.proofs.lemmas.Slice.Eq.{bytes_eq-Decides}
use Rattle.std.proofs.lemmas.Bool.{and_parts, or_parts}
use Rattle.circuit_model.specs.Names.{has, all_different}
use Rattle.circuit_model.specs.MachineSoundness.{is_any, first_mentions}
use Rattle.kiss_format.specs.Lines.{with_state, with_states, place_of, state_of}
use Rattle.kiss_format.proofs.Places.{kept, states_append, found-at, found-within, any-last, has-first, state-stays}

-- facts of all items

pub all_append : {A : Type 0} (P : A → Type 0) (xs ys : List A) → AllByRecursion P xs → AllByRecursion P ys → AllByRecursion P (xs ++ ys)
all_append P [] ys h k = k
all_append P (x ∷ xs) ys h k = (h.0, all_append P xs ys h.1 k)

pub all_kept : {A : Type 0} (P : A → Type 0) (test : A → Bool) (xs : List A) → AllByRecursion P xs → AllByRecursion P (filter test xs)
all_kept P test [] h = tt
all_kept P test (x ∷ xs) h = by (test x) (all_kept P test xs h.1)
  where
    by : (b : Bool) → AllByRecursion P (filter test xs) → AllByRecursion P (if b then x ∷ filter test xs else filter test xs)
    by true rest = (h.0, rest)
    by false rest = rest

-- names after others

pub with_keeps : (P : List ℕ → Type 0) (states names : List (List ℕ)) → AllByRecursion P states → AllByRecursion P names → AllByRecursion P (with_states states names)
unfolding with_states with_state
with_keeps P states [] h k = h
with_keeps P states (name ∷ names) h k = with_keeps P (with_state states name) names (by (has states name)) k.1
  where
    by : (b : Bool) → AllByRecursion P (if b then states else states ++ name ∷ [])
    by true = h
    by false = all_append P states (name ∷ []) h (k.0, tt)

has_last : (states : List (List ℕ)) (name word : List ℕ) → has (states ++ word ∷ []) name ≡ (has states name || bytes_eq name word)
has_last [] name word = by (bytes_eq name word)
  where
    by : (b : Bool) → (b || false) ≡ b
    by true = refl
    by false = refl
has_last (state ∷ states) name word = by (bytes_eq name state) (has_last states name word)
  where
    by : (b : Bool) → has (states ++ word ∷ []) name ≡ (has states name || bytes_eq name word) → (b || has (states ++ word ∷ []) name) ≡ (b || has states name || bytes_eq name word)
    by true e = refl
    by false e = e

pub bytes_turned : (a b : List ℕ) → bytes_eq a b ≡ false → bytes_eq b a ≡ false
bytes_turned a b e = by (bytes_eq b a) refl
  where
    by : (t : Bool) → bytes_eq b a ≡ t → bytes_eq b a ≡ false
    by false f = f
    by true f = absurd (let same : a ≡ b = sym ((bytes_eq-Decides b a).0 f) in let yes : bytes_eq a b ≡ true = (bytes_eq-Decides a b).1 same in let no : true ≡ false = sym yes ∙ e in cc)

pub not-true : (b : Bool) → not b ≡ true → b ≡ false
not-true true e = absurd (let no : false ≡ true = e in cc)
not-true false e = refl

one_more : (states : List (List ℕ)) (word : List ℕ) → all_different states ≡ true → has states word ≡ false → all_different (states ++ word ∷ []) ≡ true
unfolding all_different
one_more [] word once new = refl
one_more (state ∷ states) word once new =
    let parts = and_parts (not (has states state)) (all_different states) once in
    let apart = or_parts (bytes_eq word state) (has states word) new in
    let lacks : has (states ++ word ∷ []) state ≡ false =
    has_last states state word ∙ rw (not-true (has states state) parts.0, bytes_turned word state apart.0) refl in
    rw (lacks, one_more states word parts.1 apart.1) refl

pub with_once : (states names : List (List ℕ)) → all_different states ≡ true → all_different (with_states states names) ≡ true
unfolding with_states with_state
with_once states [] once = once
with_once states (name ∷ names) once = with_once (with_state states name) names (by (has states name) refl)
  where
    by : (b : Bool) → has states name ≡ b → all_different (if b then states else states ++ name ∷ []) ≡ true
    by true e = once
    by false e = one_more states name once e

pub with_longer : (states names : List (List ℕ)) → length states ≤ length (with_states states names)
unfolding with_states with_state
with_longer states [] = omega arith
with_longer states (name ∷ names) =
    let here : length states ≤ length (with_state states name) = by (has states name) in
    omega (arith, here, with_longer (with_state states name) names)
  where
    by : (b : Bool) → length states ≤ length (if b then states else states ++ name ∷ [])
    by true = omega arith
    by false = omega (arith, length-append states (name ∷ []))

-- numbers in a range

pub same_test : (a b : ℕ) → a ≡ b → (a == b) ≡ true
same_test a b e = grind (arith, nat_tests)

above_test : (a b : ℕ) → b < a → (a == b) ≡ false
above_test a b less = grind (arith, nat_tests)

pub range_has : (first count p : ℕ) → first ≤ p → p < first + count → list_any (λ one. p == one) (range_with_len first count) ≡ true
range_has first zero p from to = absurd (omega (arith, from, to))
range_has first (suc count) p from to = by (p == first) refl (λ past. range_has (first + 1) count p past (omega (arith, to)))
  where
    by : (b : Bool) → (p == first) ≡ b → (first + 1 ≤ p → list_any (λ one. p == one) (range_with_len (first + 1) count) ≡ true) → (b || list_any (λ one. p == one) (range_with_len (first + 1) count)) ≡ true
    by true e rec = refl
    by false e rec =
        let past : first + 1 ≤ p = grind (arith, nat_tests) in
        rec past

pub range_lacks : (first count p : ℕ) → first + count ≤ p → list_any (λ one. p == one) (range_with_len first count) ≡ false
range_lacks first zero p past = refl
range_lacks first (suc count) p past = rw (above_test p first (omega (arith, past)), range_lacks (first + 1) count p (omega (arith, past))) refl

pub range_more : (first count : ℕ) → range_with_len first count ++ (first + count) ∷ [] ≡ range_with_len first (count + 1)
range_more first zero = let e : first + 0 ≡ first = omega arith in rw e refl
range_more first (suc count) =
    let e : first + suc count ≡ first + 1 + count = omega arith in
    let longer : suc (count + 1) ≡ suc count + 1 = omega arith in
    ap (λ rest. first ∷ rest) (ap (λ n. range_with_len (first + 1) count ++ n ∷ []) e ∙ range_more (first + 1) count)
    ∙ ap (range_with_len first) longer

-- mentions

pub mentions_append : (known xs ys : List ℕ) → first_mentions known (xs ++ ys) ≡ first_mentions (first_mentions known xs) ys
unfolding first_mentions
mentions_append known [] ys = refl
mentions_append known (x ∷ xs) ys = mentions_append (if list_any (λ one. x == one) known then known else known ++ x ∷ []) xs ys

pub mention_old : (count p : ℕ) (more : List ℕ) → p < count → first_mentions (range_with_len 0 count) (p ∷ more) ≡ first_mentions (range_with_len 0 count) more
unfolding first_mentions
mention_old count p more less = rw (range_has 0 count p (omega arith) (omega (arith, less))) refl

pub mention_new : (count : ℕ) (more : List ℕ) → first_mentions (range_with_len 0 count) (count ∷ more) ≡ first_mentions (range_with_len 0 (count + 1)) more
unfolding first_mentions
mention_new count more =
    let from : 0 + count ≡ count = omega arith in
    let next : range_with_len 0 count ++ count ∷ [] ≡ range_with_len 0 (count + 1) =
    ap (λ n. range_with_len 0 count ++ n ∷ []) (sym from) ∙ range_more 0 count in
    rw (range_lacks 0 count count (omega arith)) (ap (λ known. first_mentions known more) next)

unfound : (word : List ℕ) (states : List (List ℕ)) → has states word ≡ false → position_or_len (bytes_eq word) states ≡ length states
unfound word [] e = refl
unfound word (state ∷ states) e =
    let apart = or_parts (bytes_eq word state) (has states word) e in
    rw (apart.0, unfound word states apart.1) (omega arith)

pub place_new : (states : List (List ℕ)) (word : List ℕ) → has states word ≡ false → place_of (states ++ word ∷ []) word ≡ Some (length states)
place_new states word e =
    let own : bytes_eq word word ≡ true = (bytes_eq-Decides word word).1 refl in
    let at = unfound word states e in
    let here : (position_or_len (bytes_eq word) states == length states) ≡ true = same_test (position_or_len (bytes_eq word) states) (length states) at in
    found-at (bytes_eq word) (states ++ word ∷ []) (any-last (bytes_eq word) states word own)
    ∙ ap Some (position_or_len_push (bytes_eq word) states word ∙ rw (here, own) (omega arith))

-- a word of a row mentions a state that is known, or the next one
pub word_mentioned : (states : List (List ℕ)) (word : List ℕ) → first_mentions (range_with_len 0 (length states)) (option_to_list (state_of (with_states states (kept (word ∷ []))) word)) ≡ range_with_len 0 (length (with_states states (kept (word ∷ []))))
unfolding with_states with_state first_mentions
word_mentioned states word = by (is_any word) refl
  where
    known : (b : Bool) → has states word ≡ b → first_mentions (range_with_len 0 (length states)) (option_to_list (place_of (if b then states else states ++ word ∷ []) word)) ≡ range_with_len 0 (length (if b then states else states ++ word ∷ []))
    known true e =
        ap (λ o. first_mentions (range_with_len 0 (length states)) (option_to_list o)) (found-at (bytes_eq word) states e)
        ∙ mention_old (length states) (position_or_len (bytes_eq word) states) [] (found-within (bytes_eq word) states e)
    known false e =
        let longer : length (states ++ word ∷ []) ≡ length states + 1 = length-append states (word ∷ []) in
        ap (λ o. first_mentions (range_with_len 0 (length states)) (option_to_list o)) (place_new states word e)
        ∙ mention_new (length states) [] ∙ ap (range_with_len 0) (sym longer)

    by : (b : Bool) → is_any word ≡ b → first_mentions (range_with_len 0 (length states)) (option_to_list (state_of (with_states states (kept (word ∷ []))) word)) ≡ range_with_len 0 (length (with_states states (kept (word ∷ []))))
    by true e = rw e refl
    by false e = rw e (known (has states word) refl)

pub both_kept : (current next : List ℕ) (states : List (List ℕ)) → with_states states (kept (current ∷ next ∷ [])) ≡ with_states (with_states states (kept (current ∷ []))) (kept (next ∷ []))
both_kept current next states =
    ap (with_states states) (filter-append (λ word. not (is_any word)) (current ∷ []) (next ∷ []))
    ∙ states_append states (kept (current ∷ [])) (kept (next ∷ []))

-- the two words of a row
pub words_mentioned : (states : List (List ℕ)) (current next : List ℕ) (after : List (List ℕ)) → with_states states (kept (current ∷ next ∷ [])) ≡ after
    → first_mentions (range_with_len 0 (length states)) (option_to_list (state_of after current) ++ option_to_list (state_of after next)) ≡ range_with_len 0 (length after)
words_mentioned states current next after e =
    let first = with_states states (kept (current ∷ [])) in
    let split : with_states first (kept (next ∷ [])) ≡ after = sym (both_kept current next states) ∙ e in
    let stays : state_of after current ≡ state_of first current =
    ap (λ names. state_of names current) (sym split) ∙ state-stays first (kept (next ∷ [])) current (has-first states current []) in
    let last = word_mentioned first next in
    mentions_append (range_with_len 0 (length states)) (option_to_list (state_of after current)) (option_to_list (state_of after next))
    ∙ ap (λ o. first_mentions (first_mentions (range_with_len 0 (length states)) (option_to_list o)) (option_to_list (state_of after next))) stays
    ∙ ap (λ known. first_mentions known (option_to_list (state_of after next))) (word_mentioned states current)
    ∙ ap (λ names. first_mentions (range_with_len 0 (length first)) (option_to_list (state_of names next))) (sym split)
    ∙ last ∙ ap (λ (names : List (List ℕ)). range_with_len 0 (length names)) split
