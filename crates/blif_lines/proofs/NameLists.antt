-- Lists of names: what holds of all of them, and how often a name occurs in them.
use Rattle.std.specs.Prelude.{◌≡◌, ℕ, zero, suc, ◌+◌, ◌<◌, ◌≤◌, Bool, true, false, not, ◌&&◌, ◌||◌, nat_lt, List, [], ◌∷◌, ◌++◌, map, take, count_by, find, Some, None, cond, bytes_eq, if◌then◌else◌}
use Rattle.std.specs.List.{AllByRecursion}
use Rattle.std.proofs.Common.{refl, sym, ◌∙◌, ap, subst, arith}
use Rattle.std.proofs.lemmas.Bool.{ltb-false, ltb-true, and_from}
use Rattle.std.proofs.lemmas.List.Sums.{sum_by-cons, sum_by-append}
use Rattle.std.proofs.lemmas.Slice.Eq.{bytes_eq-Decides}
use Rattle.circuit_model.specs.Names.{has, all_different}
use Rattle.line_words.specs.LineWords.{other_words}

-- tests

pub not_true : (b : Bool) → not b ≡ true → b ≡ false
not_true true e = absurd (cc)
not_true false e = refl

pub and_left : (a b : Bool) → (a && b) ≡ true → a ≡ true
and_left true b e = refl
and_left false b e = e

pub and_right : (a b : Bool) → (a && b) ≡ true → b ≡ true
and_right true b e = e
and_right false b e = absurd (cc)

-- facts of all items of a list

pub all_append : {A : Type 0} (P : A → Type 0) (xs ys : List A) → AllByRecursion P xs → AllByRecursion P ys → AllByRecursion P (xs ++ ys)
all_append P [] ys a b = b
all_append P (x ∷ xs) ys a b = (a.0, all_append P xs ys a.1 b)

pub all_front : {A : Type 0} (P : A → Type 0) (xs ys : List A) → AllByRecursion P (xs ++ ys) → AllByRecursion P xs
all_front P [] ys a = tt
all_front P (x ∷ xs) ys a = (a.0, all_front P xs ys a.1)

pub all_back : {A : Type 0} (P : A → Type 0) (xs ys : List A) → AllByRecursion P (xs ++ ys) → AllByRecursion P ys
all_back P [] ys a = a
all_back P (x ∷ xs) ys a = all_back P xs ys a.1

pub all_kept : {A : Type 0} (P Q : A → Type 0) (xs : List A) → ((x : A) → P x → Q x) → AllByRecursion P xs → AllByRecursion Q xs
all_kept P Q [] h a = tt
all_kept P Q (x ∷ xs) h a = (h x a.0, all_kept P Q xs h a.1)

pub all_map : {A B : Type 0} (P : A → Type 0) (Q : B → Type 0) (f : A → B) (xs : List A) → ((x : A) → P x → Q (f x)) → AllByRecursion P xs → AllByRecursion Q (map f xs)
all_map P Q f [] h a = tt
all_map P Q f (x ∷ xs) h a = (h x a.0, all_map P Q f xs h a.1)

pub all_taken : {A : Type 0} (P : A → Type 0) (n : ℕ) (xs : List A) → AllByRecursion P xs → AllByRecursion P (take n xs)
all_taken P zero xs a = tt
all_taken P (suc n) [] a = tt
all_taken P (suc n) (x ∷ xs) a = (a.0, all_taken P n xs a.1)

pub others_have : (P : List ℕ → Type 0) (words : List (List ℕ)) → AllByRecursion P words → AllByRecursion P (other_words words)
others_have P [] a = tt
others_have P (word ∷ words) a = a.1

pub none_found : (p : List ℕ → Bool) (names : List (List ℕ)) → find p names ≡ None → AllByRecursion (λ name. p name ≡ false) names
none_found p [] e = tt
none_found p (name ∷ names) e = by (p name) refl (none_found p names) e
  where
    by : (b : Bool) → p name ≡ b → (find p names ≡ None → AllByRecursion (λ name. p name ≡ false) names) → (if b then Some name else find p names) ≡ None → AllByRecursion (λ name. p name ≡ false) (name ∷ names)
    by true f rec e = absurd (cc)
    by false f rec e = (f, rec e)

-- names

pub same_name : (a b : List ℕ) → bytes_eq a b ≡ true → a ≡ b
same_name a b e = (bytes_eq-Decides a b).0 e

pub own_name : (a : List ℕ) → bytes_eq a a ≡ true
own_name a = (bytes_eq-Decides a a).1 refl

-- what holds of all names of a list holds of those that are among them
pub all_among : (P : List ℕ → Type 0) (names : List (List ℕ)) (name : List ℕ) → AllByRecursion P names → has names name ≡ true → P name
all_among P [] name a h = absurd (cc)
all_among P (first ∷ names) name a h = by (bytes_eq name first) refl (λ f. all_among P names name a.1 f) h
  where
    by : (b : Bool) → bytes_eq name first ≡ b → (has names name ≡ true → P name) → (b || has names name) ≡ true → P name
    by true e rec f = subst P (sym (same_name name first e)) a.0
    by false e rec f = rec f

pub all_of_has : (P : List ℕ → Type 0) (names : List (List ℕ)) → ((name : List ℕ) → has names name ≡ true → P name) → AllByRecursion P names
all_of_has P [] h = tt
all_of_has P (first ∷ names) h =
    (h first (ap (λ b. b || has names first) (own_name first)), all_of_has P names (λ name e. h name (either (bytes_eq name first) (has names name) e)))
  where
    either : (a b : Bool) → b ≡ true → (a || b) ≡ true
    either true b e = refl
    either false b e = e

-- how often a name occurs in a list

abbrev pub times : List (List ℕ) → List ℕ → ℕ
times names name = count_by (bytes_eq name) names

pub times_more : (name first : List ℕ) (names : List (List ℕ)) (b : Bool) → bytes_eq name first ≡ b → times (first ∷ names) name ≡ cond b 1 0 + times names name
times_more name first names b e =
    sum_by-cons (λ (n : List ℕ). cond {A = ℕ} (bytes_eq name n) 1 0) first names ∙ ap (λ (test : Bool). cond {A = ℕ} test 1 0 + times names name) e

pub times_both : (name : List ℕ) (names others : List (List ℕ)) → times (names ++ others) name ≡ times names name + times others name
times_both name names others = sum_by-append (λ (n : List ℕ). cond {A = ℕ} (bytes_eq name n) 1 0) names others

pub times_one : (name first : List ℕ) (names : List (List ℕ)) → bytes_eq name first ≡ true → times (first ∷ names) name ≡ 1 + times names name
times_one name first names e = times_more name first names true e

pub times_none : (name first : List ℕ) (names : List (List ℕ)) → bytes_eq name first ≡ false → times (first ∷ names) name ≡ 0 + times names name
times_none name first names e = times_more name first names false e

pub never : (names : List (List ℕ)) (name : List ℕ) → has names name ≡ false → times names name ≡ 0
never [] name h = refl
never (first ∷ names) name h = by (bytes_eq name first) refl (λ f. never names name f) h
  where
    by : (b : Bool) → bytes_eq name first ≡ b → (has names name ≡ false → times names name ≡ 0) → (b || has names name) ≡ false → times (first ∷ names) name ≡ 0
    by true e rec f = absurd (cc)
    by false e rec f = let none : times names name ≡ 0 = rec f in let more : times (first ∷ names) name ≡ 0 + times names name = times_none name first names e in omega arith

pub not_there : (names : List (List ℕ)) (name : List ℕ) → times names name ≡ 0 → has names name ≡ false
not_there [] name h = refl
not_there (first ∷ names) name h = by (bytes_eq name first) refl (λ f. not_there names name f)
  where
    by : (b : Bool) → bytes_eq name first ≡ b → (times names name ≡ 0 → has names name ≡ false) → (b || has names name) ≡ false
    by true e rec = absurd (let more : times (first ∷ names) name ≡ 1 + times names name = times_one name first names e in omega arith)
    by false e rec = let more : times (first ∷ names) name ≡ 0 + times names name = times_none name first names e in rec (omega arith)

pub there : (names : List (List ℕ)) (name : List ℕ) → 0 < times names name → has names name ≡ true
there names name h = by (has names name) refl
  where
    by : (b : Bool) → has names name ≡ b → b ≡ true
    by true e = refl
    by false e = absurd (let none : times names name ≡ 0 = never names name e in omega arith)

pub some_times : (names : List (List ℕ)) (name : List ℕ) → has names name ≡ true → 0 < times names name
some_times names name h = by (nat_lt 0 (times names name)) refl
  where
    by : (b : Bool) → nat_lt 0 (times names name) ≡ b → 0 < times names name
    by true e = let t = ltb-true 0 (times names name) e in t
    by false e = absurd (let le : times names name ≤ 0 = ltb-false 0 (times names name) e in let none : has names name ≡ false = not_there names name (omega arith) in cc)

pub different_once : (names : List (List ℕ)) (name : List ℕ) → all_different names ≡ true → times names name ≤ 1
unfolding all_different
different_once [] name d = omega arith
different_once (first ∷ names) name d = by (bytes_eq name first) refl (different_once names name (and_right (not (has names first)) (all_different names) d))
  where
    by : (b : Bool) → bytes_eq name first ≡ b → times names name ≤ 1 → times (first ∷ names) name ≤ 1
    by true e rec =
        let new : has names first ≡ false = not_true (has names first) (and_left (not (has names first)) (all_different names) d) in
        let none : times names name ≡ 0 = never names name (ap (has names) (same_name name first e) ∙ new) in
        let more : times (first ∷ names) name ≡ 1 + times names name = times_one name first names e in omega arith
    by false e rec = let more : times (first ∷ names) name ≡ 0 + times names name = times_none name first names e in omega arith

pub once_different : (names : List (List ℕ)) → ((name : List ℕ) → times names name ≤ 1) → all_different names ≡ true
unfolding all_different
once_different [] h = refl
once_different (first ∷ names) h =
    and_from (not (has names first)) (all_different names) (ap not (not_there names first none)) (once_different names rest)
  where
    none : times names first ≡ 0
    none = let more : times (first ∷ names) first ≡ 1 + times names first = times_one first first names (own_name first) in let most : times (first ∷ names) first ≤ 1 = h first in omega arith

    rest : (name : List ℕ) → times names name ≤ 1
    rest name = by (bytes_eq name first) refl
      where
        by : (b : Bool) → bytes_eq name first ≡ b → times names name ≤ 1
        by true e = let more : times (first ∷ names) name ≡ 1 + times names name = times_one name first names e in let most : times (first ∷ names) name ≤ 1 = h name in omega arith
        by false e = let more : times (first ∷ names) name ≡ 0 + times names name = times_none name first names e in let most : times (first ∷ names) name ≤ 1 = h name in omega arith
