-- Distinct names: which they are, that they are all different, and their indices.
use Rattle.std.specs.Prelude.{◌≡◌, ℕ, suc, ◌+◌, ◌<◌, ◌≤◌, Bool, true, false, not, ◌&&◌, ◌||◌, List, [], ◌∷◌, ◌++◌, map, length, bytes_eq, if◌then◌else◌}
use Rattle.std.specs.List.{position_or_len, filter}
use Rattle.std.proofs.Common.{refl, sym, subst, ◌∙◌, ap, arith, get_or, append_assoc, length-append}
use Rattle.std.proofs.lemmas.List.{append-nil}
use Rattle.std.proofs.lemmas.List.Folds.{list_any-append}
use Rattle.std.proofs.lemmas.Slice.Eq.{bytes_eq-Decides}
use Rattle.circuit_model.specs.Names.{has, all_different}
use Rattle.circuit_tables.specs.Folding.{each_once}
use Rattle.circuit_tables.specs.Listing.{names_with}

pub and_left : (a b : Bool) → (a && b) ≡ true → a ≡ true
and_left true b e = refl
and_left false b e = e

pub and_right : (a b : Bool) → (a && b) ≡ true → b ≡ true
and_right true b e = e
and_right false b e = absurd (let no = e in cc)

pub same_name : (a b : List ℕ) → bytes_eq a b ≡ true → a ≡ b
same_name a b e = (bytes_eq-Decides a b).0 e

pub itself : (a : List ℕ) → bytes_eq a a ≡ true
itself a = (bytes_eq-Decides a a).1 refl

turned : (a b : List ℕ) → bytes_eq a b ≡ true → bytes_eq b a ≡ true
turned a b e = (bytes_eq-Decides b a).1 (sym (same_name a b e))

pub bytes_eq-sym : (a b : List ℕ) → bytes_eq a b ≡ bytes_eq b a
bytes_eq-sym a b = by (bytes_eq a b) (bytes_eq b a) refl refl
  where
    by : (t u : Bool) → bytes_eq a b ≡ t → bytes_eq b a ≡ u → t ≡ u
    by true true e d = refl
    by false false e d = refl
    by true false e d = sym (turned a b e) ∙ d
    by false true e d = sym e ∙ turned b a d

-- which names they are

has-push : (known : List (List ℕ)) (last name : List ℕ) → has (known ++ last ∷ []) name ≡ (has known name || bytes_eq name last)
has-push known last name = list_any-append (bytes_eq name) known (last ∷ []) ∙ ap (λ b. has known name || b) (or_none (bytes_eq name last))
  where
    or_none : (b : Bool) → (b || false) ≡ b
    or_none true = refl
    or_none false = refl

has-same : (names : List (List ℕ)) (a b : List ℕ) → bytes_eq a b ≡ true → has names a ≡ has names b
has-same names a b e = ap (has names) (same_name a b e)

-- names listed one by one are the names once

pub filter_twice : (p q : List ℕ → Bool) (names : List (List ℕ)) → filter p (filter q names) ≡ filter (λ name. q name && p name) names
filter_twice p q [] = refl
filter_twice p q (name ∷ names) = by (q name) (p name) (filter_twice p q names)
  where
    by : (t u : Bool) → filter p (filter q names) ≡ filter (λ other. q other && p other) names
        → filter p (if t then name ∷ filter q names else filter q names)
        ≡ (if t && p name then name ∷ filter (λ other. q other && p other) names else filter (λ other. q other && p other) names)
    by true u rest = step (p name)
      where
        step : (v : Bool) → (if v then name ∷ filter p (filter q names) else filter p (filter q names))
            ≡ (if v then name ∷ filter (λ other. q other && p other) names else filter (λ other. q other && p other) names)
        step true = ap (λ list. name ∷ list) rest
        step false = rest
    by false u rest = rest

filter_same : (p q : List ℕ → Bool) → ((name : List ℕ) → p name ≡ q name) → (names : List (List ℕ)) → filter p names ≡ filter q names
filter_same p q h [] = refl
filter_same p q h (name ∷ names) = rw (h name, filter_same p q h names) refl

others-known : (known : List (List ℕ)) (first name : List ℕ) → has known first ≡ true → (not (bytes_eq first name) && not (has known name)) ≡ not (has known name)
others-known known first name h = by (bytes_eq first name) refl
  where
    by : (t : Bool) → bytes_eq first name ≡ t → (not t && not (has known name)) ≡ not (has known name)
    by true e = let k : has known name ≡ true = sym (has-same known first name e) ∙ h in rw k refl
    by false e = refl

others-new : (known : List (List ℕ)) (first name : List ℕ) → (not (bytes_eq first name) && not (has known name)) ≡ not (has (known ++ first ∷ []) name)
others-new known first name = rw (has-push known first name, bytes_eq-sym name first) (by (bytes_eq first name) (has known name))
  where
    by : (t u : Bool) → (not t && not u) ≡ not (u || t)
    by true true = refl
    by true false = refl
    by false true = refl
    by false false = refl

pub listed : (known names : List (List ℕ)) → names_with known names ≡ known ++ filter (λ name. not (has known name)) (each_once names)
unfolding names_with each_once
listed known [] = sym (append-nil known)
listed known (first ∷ names) = cases (has known first) refl (listed known names) (listed (known ++ first ∷ []) names)
  where
    cases : (t : Bool) → has known first ≡ t
        → names_with known names ≡ known ++ filter (λ name. not (has known name)) (each_once names)
        → names_with (known ++ first ∷ []) names ≡ (known ++ first ∷ []) ++ filter (λ name. not (has (known ++ first ∷ []) name)) (each_once names)
        → names_with (if t then known else known ++ first ∷ []) names
        ≡ known ++ filter (λ name. not (has known name)) (first ∷ filter (λ other. not (bytes_eq first other)) (each_once names))
    cases true h rest more = rw h (
        rest
        ∙ ap (λ list. known ++ list) (sym (filter_twice (λ name. not (has known name)) (λ other. not (bytes_eq first other)) (each_once names)
        ∙ filter_same (λ name. not (bytes_eq first name) && not (has known name)) (λ name. not (has known name)) (λ name. others-known known first name h) (each_once names))))
    cases false h rest more = rw h (
        more
        ∙ (append_assoc known (first ∷ []) (filter (λ name. not (has (known ++ first ∷ []) name)) (each_once names))
        ∙ ap (λ list. known ++ first ∷ list) (sym (filter_twice (λ name. not (has known name)) (λ other. not (bytes_eq first other)) (each_once names)
        ∙ filter_same (λ name. not (bytes_eq first name) && not (has known name)) (λ name. not (has (known ++ first ∷ []) name)) (λ name. others-new known first name) (each_once names)))))

filter_all : (names : List (List ℕ)) → filter (λ name. not (has [] name)) names ≡ names
filter_all [] = refl
filter_all (name ∷ names) = ap (λ list. name ∷ list) (filter_all names)

-- starting from no names, they are exactly the distinct names
pub listed_once : (names : List (List ℕ)) → names_with [] names ≡ each_once names
listed_once names = listed [] names ∙ filter_all (each_once names)

pub has-names_with : (known names : List (List ℕ)) (name : List ℕ) → has (names_with known names) name ≡ (has known name || has names name)
unfolding names_with
has-names_with known [] name = or_none (has known name)
  where
    or_none : (b : Bool) → b ≡ (b || false)
    or_none true = refl
    or_none false = refl
has-names_with known (first ∷ names) name =
    cases (has known first) refl (has-names_with known names name) (has-names_with (known ++ first ∷ []) names name)
  where
    cases : (t : Bool) → has known first ≡ t → has (names_with known names) name ≡ (has known name || has names name)
        → has (names_with (known ++ first ∷ []) names) name ≡ (has (known ++ first ∷ []) name || has names name)
        → has (names_with (if t then known else known ++ first ∷ []) names) name ≡ (has known name || (bytes_eq name first || has names name))
    cases true h rest more = rest ∙ found (bytes_eq name first) refl (has known name) refl
      where
        found : (u : Bool) → bytes_eq name first ≡ u → (k : Bool) → has known name ≡ k → (k || has names name) ≡ (k || (u || has names name))
        found true e true d = refl
        found true e false d = absurd (let same = has-same known name first e in cc)
        found false e k d = refl
    cases false h rest more = more ∙ (ap (λ b. b || has names name) (has-push known first name) ∙ by (has known name) (bytes_eq name first) (has names name))
      where
        by : (a b c : Bool) → ((a || b) || c) ≡ (a || (b || c))
        by true b c = refl
        by false b c = refl

pub has-each_once : (names : List (List ℕ)) (name : List ℕ) → has (each_once names) name ≡ has names name
has-each_once names name = rw (← listed_once names) (has-names_with [] names name)

-- they are all different

different-push : (known : List (List ℕ)) (last : List ℕ) → all_different (known ++ last ∷ []) ≡ (all_different known && not (has known last))
unfolding all_different
different-push [] last = refl
different-push (first ∷ known) last =
    rw (has-push known last first, different-push known last, bytes_eq-sym first last)
    (by (has known first) (bytes_eq last first) (all_different known) (has known last))
  where
    by : (a b c d : Bool) → (not (a || b) && (c && not d)) ≡ ((not a && c) && not (b || d))
    by true b c d = refl
    by false true true d = refl
    by false true false d = refl
    by false false c d = refl

different-names_with : (known names : List (List ℕ)) → all_different known ≡ true → all_different (names_with known names) ≡ true
unfolding names_with
different-names_with known [] h = h
different-names_with known (first ∷ names) h = cases (has known first) refl (different-names_with known names h) (λ k. different-names_with (known ++ first ∷ []) names k)
  where
    cases : (t : Bool) → has known first ≡ t → all_different (names_with known names) ≡ true
        → (all_different (known ++ first ∷ []) ≡ true → all_different (names_with (known ++ first ∷ []) names) ≡ true)
        → all_different (names_with (if t then known else known ++ first ∷ []) names) ≡ true
    cases true e rest more = rest
    cases false e rest more = more (different-push known first ∙ rw (h, e) refl)

pub different-each_once : (names : List (List ℕ)) → all_different (each_once names) ≡ true
unfolding all_different
different-each_once names = rw (← listed_once names) (different-names_with [] names refl)

-- names that are all different are the names once, and only they are as many

length-names_with : (known names : List (List ℕ)) → length (names_with known names) ≤ length known + length names
unfolding names_with
length-names_with known [] = omega arith
length-names_with known (first ∷ names) = cases (has known first) (length-names_with known names) (length-names_with (known ++ first ∷ []) names)
  where
    cases : (t : Bool) → length (names_with known names) ≤ length known + length names
        → length (names_with (known ++ first ∷ []) names) ≤ length (known ++ first ∷ []) + length names
        → length (names_with (if t then known else known ++ first ∷ []) names) ≤ length known + length (first ∷ names)
    cases true rest more = omega arith
    cases false rest more = omega (arith, more, length-append known (first ∷ []))

pub length-each_once : (names : List (List ℕ)) → length (each_once names) ≤ length names
length-each_once names =
    let h : length (names_with [] names) ≤ 0 + length names = length-names_with [] names in rw (← listed_once names) (omega (arith, h))

full-names_with : (known names : List (List ℕ)) → length (names_with known names) ≡ length known + length names → names_with known names ≡ known ++ names
unfolding names_with
full-names_with known [] e = sym (append-nil known)
full-names_with known (first ∷ names) e =
    cases (has known first) (λ k. full-names_with (known ++ first ∷ []) names k) e
  where
    cases : (t : Bool)
        → (length (names_with (known ++ first ∷ []) names) ≡ length (known ++ first ∷ []) + length names → names_with (known ++ first ∷ []) names ≡ (known ++ first ∷ []) ++ names)
        → length (names_with (if t then known else known ++ first ∷ []) names) ≡ length known + length (first ∷ names)
        → names_with (if t then known else known ++ first ∷ []) names ≡ known ++ first ∷ names
    cases true more d = absurd (omega (arith, d, length-names_with known names))
    cases false more d = more (omega (arith, d, length-append known (first ∷ []))) ∙ append_assoc known (first ∷ []) names

all-each_once : (names : List (List ℕ)) → length (each_once names) ≡ length names → each_once names ≡ names
all-each_once names e = sym (listed_once names) ∙ full-names_with [] names (ap length (listed_once names) ∙ (e ∙ omega arith))

pub full-each_once : (names : List (List ℕ)) → length (each_once names) ≡ length names → all_different names ≡ true
full-each_once names e = subst (λ (list : List (List ℕ)). all_different list ≡ true) (all-each_once names e) (different-each_once names)

different_front : (known names : List (List ℕ)) → all_different (known ++ names) ≡ true → all_different known ≡ true
unfolding all_different
different_front [] names h = refl
different_front (first ∷ known) names h =
    let new : has (known ++ names) first ≡ false = fresh (has (known ++ names) first) (and_left (not (has (known ++ names) first)) (all_different (known ++ names)) h) in
    let front : has known first ≡ false = left (has known first) (has names first) (sym (list_any-append (bytes_eq first) known names) ∙ new) in
    rw (front, different_front known names (and_right (not (has (known ++ names) first)) (all_different (known ++ names)) h)) refl
  where
    fresh : (b : Bool) → not b ≡ true → b ≡ false
    fresh true e = sym e
    fresh false e = refl

    left : (a b : Bool) → (a || b) ≡ false → a ≡ false
    left true b e = e
    left false b e = refl

different-names : (known names : List (List ℕ)) → all_different (known ++ names) ≡ true → names_with known names ≡ known ++ names
unfolding names_with
different-names known [] h = sym (append-nil known)
different-names known (first ∷ names) h =
    let all : all_different ((known ++ first ∷ []) ++ names) ≡ true = rw (append_assoc known (first ∷ []) names) h in
    let last : (all_different known && not (has known first)) ≡ true = sym (different-push known first) ∙ different_front (known ++ first ∷ []) names all in
    let new : has known first ≡ false = fresh (has known first) (and_right (all_different known) (not (has known first)) last) in
    rw new (different-names (known ++ first ∷ []) names all ∙ append_assoc known (first ∷ []) names)
  where
    fresh : (b : Bool) → not b ≡ true → b ≡ false
    fresh true e = sym e
    fresh false e = refl

pub each_once-different : (names : List (List ℕ)) → all_different names ≡ true → each_once names ≡ names
each_once-different names h = sym (listed_once names) ∙ different-names [] names h

-- indices

pub first_place : (first : List ℕ) (names : List (List ℕ)) (name : List ℕ) → bytes_eq name first ≡ false
    → position_or_len (bytes_eq name) (first ∷ names) ≡ suc (position_or_len (bytes_eq name) names)
first_place first names name e = let one : (n : ℕ) → 1 + n ≡ suc n = λ n. omega arith in rw e (one (position_or_len (bytes_eq name) names))

place_next : (known names : List (List ℕ)) (name : List ℕ) → position_or_len (bytes_eq name) (known ++ name ∷ names) ≡ position_or_len (bytes_eq name) known
place_next [] names name = rw (itself name) refl
place_next (first ∷ known) names name = by (bytes_eq name first) refl (place_next known names name)
  where
    by : (t : Bool) → bytes_eq name first ≡ t → position_or_len (bytes_eq name) (known ++ name ∷ names) ≡ position_or_len (bytes_eq name) known
        → position_or_len (bytes_eq name) (first ∷ known ++ name ∷ names) ≡ position_or_len (bytes_eq name) (first ∷ known)
    by true e rest = rw e refl
    by false e rest = first_place first (known ++ name ∷ names) name e ∙ (ap suc rest ∙ sym (first_place first known name e))

place_in : (known more : List (List ℕ)) (name : List ℕ) → has known name ≡ true → position_or_len (bytes_eq name) (known ++ more) ≡ position_or_len (bytes_eq name) known
place_in [] more name h = absurd (let no = h in cc)
place_in (first ∷ known) more name h = by (bytes_eq name first) refl h (λ k. place_in known more name k)
  where
    by : (t : Bool) → bytes_eq name first ≡ t → (t || has known name) ≡ true
        → (has known name ≡ true → position_or_len (bytes_eq name) (known ++ more) ≡ position_or_len (bytes_eq name) known)
        → position_or_len (bytes_eq name) (first ∷ known ++ more) ≡ position_or_len (bytes_eq name) (first ∷ known)
    by true e k rest = rw e refl
    by false e k rest = first_place first (known ++ more) name e ∙ (ap suc (rest k) ∙ sym (first_place first known name e))

-- further names follow those that are known
behind : (known names : List (List ℕ)) → (more : List (List ℕ)) × (names_with known names ≡ known ++ more)
unfolding names_with
behind known [] = ([], sym (append-nil known))
behind known (first ∷ names) = cases (has known first) (behind known names) (behind (known ++ first ∷ []) names)
  where
    cases : (t : Bool) → (more : List (List ℕ)) × (names_with known names ≡ known ++ more)
        → (more : List (List ℕ)) × (names_with (known ++ first ∷ []) names ≡ (known ++ first ∷ []) ++ more)
        → (more : List (List ℕ)) × (names_with (if t then known else known ++ first ∷ []) names ≡ known ++ more)
    cases true rest more = rest
    cases false rest more = (first ∷ more.0, more.1 ∙ append_assoc known (first ∷ []) more.0)

-- the index of a name that is known or added does not change
pub place_stays : (known names : List (List ℕ)) (name : List ℕ) → position_or_len (bytes_eq name) (names_with known (name ∷ names)) ≡ position_or_len (bytes_eq name) known
unfolding names_with
place_stays known names name = cases (has known name) refl (behind known names) (behind (known ++ name ∷ []) names)
  where
    cases : (t : Bool) → has known name ≡ t → (more : List (List ℕ)) × (names_with known names ≡ known ++ more)
        → (more : List (List ℕ)) × (names_with (known ++ name ∷ []) names ≡ (known ++ name ∷ []) ++ more)
        → position_or_len (bytes_eq name) (names_with (if t then known else known ++ name ∷ []) names) ≡ position_or_len (bytes_eq name) known
    cases true h rest more = rw rest.1 (place_in known rest.0 name h)
    cases false h rest more = rw (more.1, append_assoc known (name ∷ []) more.0) (place_next known more.0 name)

-- the bit read at the index of a name is its own
pub read_place : (names : List (List ℕ)) (value : List ℕ → Bool) (name : List ℕ) → has names name ≡ true
    → get_or (map value names) (position_or_len (bytes_eq name) names) false ≡ value name
read_place [] value name h = absurd (let no = h in cc)
read_place (first ∷ names) value name h = by (bytes_eq name first) refl h (λ k. read_place names value name k)
  where
    by : (t : Bool) → bytes_eq name first ≡ t → (t || has names name) ≡ true
        → (has names name ≡ true → get_or (map value names) (position_or_len (bytes_eq name) names) false ≡ value name)
        → get_or (map value (first ∷ names)) (position_or_len (bytes_eq name) (first ∷ names)) false ≡ value name
    by true e k rest = rw e (ap value (sym (same_name name first e)))
    by false e k rest = rw (first_place first names name e) (rest k)

pub place_within : (names : List (List ℕ)) (name : List ℕ) → has names name ≡ true → position_or_len (bytes_eq name) names < length names
place_within [] name h = absurd (let no = h in cc)
place_within (first ∷ names) name h = by (bytes_eq name first) refl h (λ k. place_within names name k)
  where
    by : (t : Bool) → bytes_eq name first ≡ t → (t || has names name) ≡ true
        → (has names name ≡ true → position_or_len (bytes_eq name) names < length names)
        → position_or_len (bytes_eq name) (first ∷ names) < length (first ∷ names)
    by true e k rest = rw e (omega arith)
    by false e k rest = rw (first_place first names name e) (omega (arith, rest k))
