-- The index of a state stays when further states are named.
use Rattle.std.specs.Prelude.{◌≡◌, ℕ, ◌+◌, ◌<◌, nat_lt, length, Bool, true, false, not, ◌||◌, Some, None, List, [], ◌∷◌, ◌++◌, bytes_eq, position, if◌then◌else◌}
use Rattle.std.specs.List.{filter, list_any, position_or_len}
use Rattle.std.proofs.Common.{refl, sym, ◌∙◌, ap, arith}
use Rattle.std.proofs.lemmas.Bool.Decides.{nat_tests}
use Rattle.std.proofs.lemmas.Slice.Eq.{bytes_eq-Decides}
use Rattle.circuit_model.specs.Names.{has}
use Rattle.circuit_model.specs.MachineSoundness.{is_any}
use Rattle.kiss_format.specs.Lines.{with_state, with_states, place_of, state_of}

pub states_append : (states names others : List (List ℕ)) → with_states states (names ++ others) ≡ with_states (with_states states names) others
unfolding with_states
states_append states [] others = refl
states_append states (name ∷ names) others = states_append (with_state states name) names others

-- the first item that passes a test stays the first when items are appended

found-in-front : {A : Type 0} (test : A → Bool) (xs ys : List A) → list_any test xs ≡ true → position_or_len test (xs ++ ys) ≡ position_or_len test xs
found-in-front test [] ys h = absurd (let no : false ≡ true = h in cc)
found-in-front test (x ∷ xs) ys h = by (test x) refl h (found-in-front test xs ys)
  where
    by : (b : Bool) → test x ≡ b → (b || list_any test xs) ≡ true
        → (list_any test xs ≡ true → position_or_len test (xs ++ ys) ≡ position_or_len test xs)
        → position_or_len test (x ∷ (xs ++ ys)) ≡ position_or_len test (x ∷ xs)
    by true e h rec = rw e refl
    by false e h rec = rw e (ap (λ n. 1 + n) (rec h))

pub found-within : {A : Type 0} (test : A → Bool) (xs : List A) → list_any test xs ≡ true → position_or_len test xs < length xs
found-within test [] h = absurd (let no : false ≡ true = h in cc)
found-within test (x ∷ xs) h = by (test x) refl h (found-within test xs)
  where
    by : (b : Bool) → test x ≡ b → (b || list_any test xs) ≡ true → (list_any test xs ≡ true → position_or_len test xs < length xs) → position_or_len test (x ∷ xs) < length (x ∷ xs)
    by true e h rec = rw e (omega arith)
    by false e h rec = let less = rec h in rw e (omega (arith, less))

less-test : (a b : ℕ) → a < b → nat_lt a b ≡ true
less-test a b h = grind (arith, nat_tests)

pub found-at : {A : Type 0} (test : A → Bool) (xs : List A) → list_any test xs ≡ true → position test xs ≡ Some (position_or_len test xs)
found-at test xs h = rw (less-test (position_or_len test xs) (length xs) (found-within test xs h)) refl

any-front : {A : Type 0} (test : A → Bool) (xs ys : List A) → list_any test xs ≡ true → list_any test (xs ++ ys) ≡ true
any-front test [] ys h = absurd (let no : false ≡ true = h in cc)
any-front test (x ∷ xs) ys h = by (test x) h (any-front test xs ys)
  where
    by : (b : Bool) → (b || list_any test xs) ≡ true → (list_any test xs ≡ true → list_any test (xs ++ ys) ≡ true) → (b || list_any test (xs ++ ys)) ≡ true
    by true h rec = refl
    by false h rec = rec h

pub any-last : {A : Type 0} (test : A → Bool) (xs : List A) (x : A) → test x ≡ true → list_any test (xs ++ x ∷ []) ≡ true
any-last test [] x h = rw h refl
any-last test (y ∷ xs) x h = by (test y) (any-last test xs x h)
  where
    by : (b : Bool) → list_any test (xs ++ x ∷ []) ≡ true → (b || list_any test (xs ++ x ∷ [])) ≡ true
    by true e = refl
    by false e = e

place-stays : (states : List (List ℕ)) (name word : List ℕ) → has states word ≡ true → place_of (with_state states name) word ≡ place_of states word
unfolding with_state
place-stays states name word h = by (has states name)
  where
    by : (b : Bool) → place_of (if b then states else states ++ name ∷ []) word ≡ place_of states word
    by true = refl
    by false =
        found-at (bytes_eq word) (states ++ name ∷ []) (any-front (bytes_eq word) states (name ∷ []) h)
        ∙ ap Some (found-in-front (bytes_eq word) states (name ∷ []) h)
        ∙ sym (found-at (bytes_eq word) states h)

has-stays : (states : List (List ℕ)) (name word : List ℕ) → has states word ≡ true → has (with_state states name) word ≡ true
unfolding with_state
has-stays states name word h = by (has states name)
  where
    by : (b : Bool) → has (if b then states else states ++ name ∷ []) word ≡ true
    by true = h
    by false = any-front (bytes_eq word) states (name ∷ []) h

has-new : (states : List (List ℕ)) (name : List ℕ) → has (with_state states name) name ≡ true
unfolding with_state
has-new states name = by (has states name) refl
  where
    by : (b : Bool) → has states name ≡ b → has (if b then states else states ++ name ∷ []) name ≡ true
    by true e = e
    by false e = any-last (bytes_eq name) states name ((bytes_eq-Decides name name).1 refl)

all-have : (states names : List (List ℕ)) (word : List ℕ) → has states word ≡ true → has (with_states states names) word ≡ true
unfolding with_states
all-have states [] word h = h
all-have states (name ∷ names) word h = all-have (with_state states name) names word (has-stays states name word h)

places-stay : (states names : List (List ℕ)) (word : List ℕ) → has states word ≡ true → place_of (with_states states names) word ≡ place_of states word
unfolding with_states
places-stay states [] word h = refl
places-stay states (name ∷ names) word h =
    places-stay (with_state states name) names word (has-stays states name word h) ∙ place-stays states name word h

pub state-stays : (states more : List (List ℕ)) (word : List ℕ) → (is_any word ≡ false → has states word ≡ true) → state_of (with_states states more) word ≡ state_of states word
state-stays states more word h = by (is_any word) refl
  where
    by : (b : Bool) → is_any word ≡ b → (if b then None else place_of (with_states states more) word) ≡ (if b then None else place_of states word)
    by true e = refl
    by false e = places-stay states more word (h e)

abbrev pub kept : List (List ℕ) → List (List ℕ)
kept words = filter (λ word. not (is_any word)) words

pub has-first : (states : List (List ℕ)) (word : List ℕ) (words : List (List ℕ)) → is_any word ≡ false → has (with_states states (kept (word ∷ words))) word ≡ true
unfolding with_states
has-first states word words e = rw e (all-have (with_state states word) (kept words) word (has-new states word))
