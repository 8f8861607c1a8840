-- The indices of names among others, and the joined inputs of two tables.
use Rattle.std.proofs.Common.{◌≡◌, ℕ, ◌+◌, ◌-◌, ◌<◌, suc, Bool, true, false, not, cond, ltb, eqb, Option, Some, None, List, [], ◌∷◌, ◌++◌, length, get_or, take, drop, bytes_eq, position, option_map, refl, sym, ap, ◌∙◌, subst, arith}
use Rattle.std.specs.List.{position_or_len}
use Rattle.std.proofs.lemmas.Bool.{eqb-true, lt-ltb, le-ltb, ltb-true, ltb-false, or_left, or_from, or_parts, false_from_ne_true}
use Rattle.std.proofs.lemmas.List.{length-append, length-take-le, length-drop}
use Rattle.circuit_model.specs.Names.{has, all_different}
use Rattle.circuit_laws.proofs.Names.{same_name, name_apart, has_tail, has_apart, different_head, different_tail}
use Rattle.cover_ops.specs.Composed.{AreEntries, is_entry, count_new}
use Rattle.alg_tables.specs.Taking.{entries, lacking, joined}

-- the index of the first item that passes a test
position_next : {X : Type 0} (p : X → Bool) (x : X) (xs : List X) → position p (x ∷ xs) ≡ cond (p x) (Some 0) (option_map suc (position p xs))
position_next p x xs = cases (p x)
  where
    len : ℕ
    len = position_or_len p xs

    later : (b : Bool) → ltb len (length xs) ≡ b → cond (ltb (1 + len) (suc (length xs))) (Some (1 + len)) None ≡ option_map suc (cond b (Some len) None)
    later true e = let z : ltb (1 + len) (suc (length xs)) ≡ true = lt-ltb (1 + len) (suc (length xs)) (omega (arith, ltb-true len (length xs) e)) in rw z (ap Some (let one : 1 + len ≡ suc len = omega arith in one))
    later false e = let z : ltb (1 + len) (suc (length xs)) ≡ false = le-ltb (1 + len) (suc (length xs)) (omega (arith, ltb-false len (length xs) e)) in rw z refl

    cases : (b : Bool) → cond (ltb (cond (not b) (1 + len) 0) (suc (length xs))) (Some (cond (not b) (1 + len) 0)) None ≡ cond b (Some 0) (option_map suc (position p xs))
    cases true = let z : ltb 0 (suc (length xs)) ≡ true = lt-ltb 0 (suc (length xs)) (omega arith) in rw z refl
    cases false = later (ltb len (length xs)) refl

-- the index of a name if it is among names; none if it is not
abbrev pub IsFound : List (List ℕ) → List ℕ → Option ℕ → Type 0
IsFound names name None = has names name ≡ false
IsFound names name (Some at) = (at < length names) × (get_or names at [] ≡ name) × (has names name ≡ true)

pub found : (names : List (List ℕ)) (name : List ℕ) → IsFound names name (position (bytes_eq name) names)
found [] name = refl
found (first ∷ names) name =
    subst (IsFound (first ∷ names) name) (sym (position_next (bytes_eq name) first names)) (cases (bytes_eq name first) refl (position (bytes_eq name) names) (found names name))
  where
    cases : (b : Bool) → bytes_eq name first ≡ b → (o : Option ℕ) → IsFound names name o → IsFound (first ∷ names) name (cond b (Some 0) (option_map suc o))
    cases true e o h = (omega arith, sym (same_name name first e), or_left (bytes_eq name first) (has names name) e)
    cases false e None h = has_apart first names name e h
    cases false e (Some at) h = (omega (arith, h.0), h.1, has_tail first names name h.2)

-- different other names have different indices, and none has that of a name which is not among them
no_entry : (names others : List (List ℕ)) (place : ℕ) → has others (get_or names place []) ≡ false → is_entry place (entries names others) ≡ false
unfolding is_entry
no_entry names [] place h = refl
no_entry names (other ∷ others) place h =
    let parts = or_parts (bytes_eq (get_or names place []) other) (has others (get_or names place [])) h in
    cases (position (bytes_eq other) names) (found names other) parts.0 (no_entry names others place parts.1)
  where
    cases : (o : Option ℕ) → IsFound names other o → bytes_eq (get_or names place []) other ≡ false → is_entry place (entries names others) ≡ false → is_entry place (o ∷ entries names others) ≡ false
    cases None f p rest = rest
    cases (Some at) f p rest =
        or_from (eqb place at) (is_entry place (entries names others))
        (false_from_ne_true (eqb place at) (λ e. name_apart (get_or names place []) other p (ap (λ (n : ℕ). get_or names n []) (eqb-true place at e) ∙ f.1))) rest

pub entries_are : (names others : List (List ℕ)) (place : ℕ) → all_different others ≡ true → has others (get_or names place []) ≡ false → AreEntries (length names) place (entries names others)
unfolding AreEntries
entries_are names [] place different apart = tt
entries_are names (other ∷ others) place different apart =
    let parts = or_parts (bytes_eq (get_or names place []) other) (has others (get_or names place [])) apart in
    cases (position (bytes_eq other) names) (found names other) parts.0 (entries_are names others place (different_tail other others different) parts.1)
  where
    cases : (o : Option ℕ) → IsFound names other o → bytes_eq (get_or names place []) other ≡ false → AreEntries (length names) place (entries names others)
        → AreEntries (length names) place (o ∷ entries names others)
    cases None f p rest = rest
    cases (Some at) f p rest = (
      f.0,
      (λ same. name_apart (get_or names place []) other p (ap (λ (n : ℕ). get_or names n []) (sym same) ∙ f.1)),
      no_entry names others at (subst (λ (n : List ℕ). has others n ≡ false) (sym f.1) (different_head other others different)),
      rest,
    )

-- the other names without an index are those that are not among the names
pub count-entries : (names others : List (List ℕ)) → count_new (entries names others) ≡ length (lacking names others)
unfolding count_new
count-entries names [] = refl
count-entries names (other ∷ others) = cases (position (bytes_eq other) names) (found names other) (count-entries names others)
  where
    cases : (o : Option ℕ) → IsFound names other o → count_new (entries names others) ≡ length (lacking names others) → count_new (o ∷ entries names others) ≡ length (lacking names (other ∷ others))
    cases None f rest = rw f (ap suc rest)
    cases (Some at) f rest = rw f.2 rest

pub length-joined : (place : ℕ) (names others : List (List ℕ)) → place < length names → length (joined place names others) ≡ length names + count_new (entries names others) - 1
length-joined place names others lt =
    let front : length (take place names) ≡ place = length-take-le place names (omega (arith, lt)) in
    let back : length (drop (suc place) names) ≡ length names - suc place = length-drop (suc place) names in
    let one : length (joined place names others) ≡ length (take place names) + length (lacking names others ++ drop (suc place) names) = length-append (take place names) (lacking names others ++ drop (suc place) names) in
    let two : length (lacking names others ++ drop (suc place) names) ≡ length (lacking names others) + length (drop (suc place) names) = length-append (lacking names others) (drop (suc place) names) in
    let new : count_new (entries names others) ≡ length (lacking names others) = count-entries names others in
    omega (arith, front, back, one, two, new, lt)
