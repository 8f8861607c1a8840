-- Names in lists and in sets of borrowed bytes.
use Rattle.std.proofs.Common.{◌≡◌, ℕ, ◌+◌, ◌<◌, ◌≤◌, Bool, true, false, not, ◌||◌, cond, if◌then◌else◌, Option, Some, None, List, [], ◌∷◌, ◌++◌, length, get_or, take, drop, map, refl, sym, ap, ◌∙◌}
use Rattle.std.proofs.Common.{inl, inr, ◌⊎◌}
use Rattle.std.specs.Borrow.{Bor}
use Rattle.std.specs.Prelude.{bytes_eq, find}
use Rattle.std.specs.List.{list_any}
use Rattle.std.proofs.lemmas.Bool.{true≢false, cases_Bool}
use Rattle.std.proofs.lemmas.Cmp.{nat_list_eq_equiv}
use Rattle.std.proofs.lemmas.List.{take_more, drop_more, drop_all, map-append}
use Rattle.std.proofs.lemmas.List.Folds.{list_any-append}
use Rattle.std.proofs.lemmas.Slice.Eq.{bytes_eq-Decides}
use Rattle.circuit_model.specs.Names.{has}
use Rattle.circuit_checks.specs.NameChecks.{first_again}
use Rattle.circuit_checks.specs.Sets.{Alike, with_name}

-- equal bytes
pub same_name : (a b : List ℕ) → bytes_eq a b ≡ true → a ≡ b
same_name a b e = (bytes_eq-Decides a b).0 e

pub name_itself : (a : List ℕ) → bytes_eq a a ≡ true
name_itself a = (bytes_eq-Decides a a).1 refl

-- a set of borrowed names as a list of names
abbrev pub texts : List (Bor (List ℕ)) → List (List ℕ)
texts names = map (λ (name : Bor (List ℕ)). name.now) names

pub held : (name : List ℕ) (names : List (Bor (List ℕ))) → list_any (λ (k : Bor (List ℕ)). bytes_eq name k.now) names ≡ has (texts names) name
held name [] = refl
held name (k ∷ ks) = ap (λ (rest : Bool). bytes_eq name k.now || rest) (held name ks)

pub put_held : (known : List (Bor (List ℕ))) (name : Bor (List ℕ)) (more : List (Bor (List ℕ)))
    → more ≡ (if list_any (λ (k : Bor (List ℕ)). bytes_eq name.now k.now) known then known else known ++ name ∷ []) → texts more ≡ with_name (texts known) name.now
unfolding with_name
put_held known name more e = ap texts e ∙ by (has (texts known) name.now) (list_any (λ (k : Bor (List ℕ)). bytes_eq name.now k.now) known) (held name.now known)
  where
    by : (b test : Bool) → test ≡ b → texts (if test then known else known ++ name ∷ []) ≡ (if b then texts known else texts known ++ name.now ∷ [])
    by true test e = rw e refl
    by false test e = rw e (map-append (λ (word : Bor (List ℕ)). word.now) known (name ∷ []))

-- names followed by others
pub has_append : (names more : List (List ℕ)) (query : List ℕ) → has (names ++ more) query ≡ (has names query || has more query)
has_append names more query = list_any-append (λ (name : List ℕ). bytes_eq query name) names more

pub has_more : (names : List (List ℕ)) (name query : List ℕ) → has (names ++ name ∷ []) query ≡ (has names query || bytes_eq query name)
has_more names name query = has_append names (name ∷ []) query ∙ ap (λ (b : Bool). has names query || b) (by (bytes_eq query name))
  where
    by : (b : Bool) → (b || false) ≡ b
    by true = refl
    by false = refl

pub has_with : (names : List (List ℕ)) (name query : List ℕ) → has (with_name names name) query ≡ (has names query || bytes_eq query name)
unfolding with_name
has_with names name query = cases (has names name) refl (cases_Bool (bytes_eq query name))
  where
    out : (a : Bool) → a ≡ (a || false)
    out true = refl
    out false = refl

    inside : (a : Bool) → a ≡ true → a ≡ (a || true)
    inside true e = refl
    inside false e = e

    cases : (b : Bool) → has names name ≡ b → (bytes_eq query name ≡ true) ⊎ (bytes_eq query name ≡ false)
        → has (if b then names else names ++ name ∷ []) query ≡ (has names query || bytes_eq query name)
    cases true h (inl e) =
        inside (has names query) (ap (λ (n : List ℕ). has names n) (same_name query name e) ∙ h) ∙ ap (λ (b : Bool). has names query || b) (sym e)
    cases true h (inr e) = out (has names query) ∙ ap (λ (b : Bool). has names query || b) (sym e)
    cases false h e = has_more names name query

-- the loop that adds names to a set
pub alike_more : (names : List (List ℕ)) (i : ℕ) (name : List ℕ) (before after : List (List ℕ)) → i < length names → name ≡ get_or names i name
    → Alike before (take i names) → after ≡ with_name before name → Alike after (take (i + 1) names)
alike_more names i name before after lt is alike e query =
    ap (λ (set : List (List ℕ)). has set query) e
    ∙ has_with before name query
    ∙ ap (λ (b : Bool). b || bytes_eq query name) (alike query)
    ∙ sym (has_more (take i names) name query)
    ∙ ap (λ (n : List ℕ). has (take i names ++ n ∷ []) query) is
    ∙ ap (λ (some : List (List ℕ)). has some query) (sym (take_more names i name lt))

-- the first that is repeated, by a set
pub again_alike : (known others names : List (List ℕ)) → Alike known others → first_again known names ≡ first_again others names
unfolding first_again
again_alike known others [] alike = refl
again_alike known others (name ∷ names) alike =
    cases (has known name) (has others name) (alike name)
    (again_alike (known ++ name ∷ []) (others ++ name ∷ []) names
    (λ query. has_more known name query ∙ ap (λ (b : Bool). b || bytes_eq query name) (alike query) ∙ sym (has_more others name query)))
  where
    cases : (a b : Bool) → a ≡ b → first_again (known ++ name ∷ []) names ≡ first_again (others ++ name ∷ []) names
        → (if a then Some name else first_again (known ++ name ∷ []) names) ≡ (if b then Some name else first_again (others ++ name ∷ []) names)
    cases true true e rec = refl
    cases false false e rec = rec
    cases true false e rec = absurd (true≢false e)
    cases false true e rec = absurd (true≢false (sym e))

pub again_stops : (set names : List (List ℕ)) (i : ℕ) (name : List ℕ) (added : Bool) → i < length names → name ≡ get_or names i name
    → added ≡ not (has set name) → added ≡ false → first_again set (drop i names) ≡ Some name
unfolding first_again
again_stops set names i name added lt is a e =
    rw (drop_more names i name lt, ← is) (by (has set name) (sym a ∙ e))
  where
    by : (b : Bool) → not b ≡ false → (if b then Some name else first_again (set ++ name ∷ []) (drop (i + 1) names)) ≡ Some name
    by true e = refl
    by false e = absurd (true≢false e)

pub again_goes_on : (set after names : List (List ℕ)) (i : ℕ) (name : List ℕ) (added : Bool) → i < length names → name ≡ get_or names i name
    → added ≡ not (has set name) → added ≡ true → after ≡ with_name set name → first_again after (drop (i + 1) names) ≡ first_again set (drop i names)
unfolding first_again with_name
again_goes_on set after names i name added lt is a e w =
    rw (drop_more names i name lt, ← is, w) (by (has set name) (sym a ∙ e))
  where
    by : (b : Bool) → not b ≡ true
        → first_again (if b then set else set ++ name ∷ []) (drop (i + 1) names) ≡ (if b then Some name else first_again (set ++ name ∷ []) (drop (i + 1) names))
    by true e = absurd (true≢false (sym e))
    by false e = refl

pub again_done : (set names : List (List ℕ)) (i : ℕ) → length names ≤ i → first_again set (drop i names) ≡ None
unfolding first_again
again_done set names i le = rw (drop_all i names le) refl

-- the first of some names, by tests that agree
pub find_alike : (test other : List ℕ → Bool) → ((name : List ℕ) → test name ≡ other name) → (names : List (List ℕ)) → find test names ≡ find other names
find_alike test other same [] = refl
find_alike test other same (name ∷ names) =
    ap (λ (b : Bool). cond b (Some name) (find test names)) (same name) ∙ ap (λ (rest : Option (List ℕ)). cond (other name) (Some name) rest) (find_alike test other same names)

-- `bytes_eq` does not mind the order of its arguments
pub same_bytes : (a b : List ℕ) → bytes_eq a b ≡ bytes_eq b a
same_bytes a b = nat_list_eq_equiv.symm a b
