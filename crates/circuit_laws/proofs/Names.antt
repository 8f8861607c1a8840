-- Names: when two are equal, which occur in a list, and when no name occurs twice.
use Rattle.std.proofs.Common.{◌≡◌, ℕ, Bool, true, false, not, ◌||◌, List, [], ◌∷◌, ◌++◌, bytes_eq, refl, sym, ◌∙◌, subst, inl, inr, ◌⊎◌}
use Rattle.std.specs.List.{AllByRecursion}
use Rattle.std.proofs.lemmas.Bool.{false≢true, or_cases, or_left, or_right, or_from, or_parts, and_parts, and_from, not_from_false, not-true, false_from_ne_true}
use Rattle.std.proofs.lemmas.Slice.Eq.{bytes_eq-Decides}
use Rattle.circuit_model.specs.Names.{has, all_different}

pub same_name : (x y : List ℕ) → bytes_eq x y ≡ true → x ≡ y
same_name x y h = (bytes_eq-Decides x y).0 h

pub name_itself : (x : List ℕ) → bytes_eq x x ≡ true
name_itself x = (bytes_eq-Decides x x).1 refl

pub name_is : (x y : List ℕ) → x ≡ y → bytes_eq x y ≡ true
name_is x y e = (bytes_eq-Decides x y).1 e

pub name_not : (x y : List ℕ) → (x ≡ y → ⊥) → bytes_eq x y ≡ false
name_not x y n = false_from_ne_true (bytes_eq x y) (λ h. n (same_name x y h))

pub name_apart : (x y : List ℕ) → bytes_eq x y ≡ false → x ≡ y → ⊥
name_apart x y h e = false≢true (sym h ∙ name_is x y e)

pub name_turned : (x y : List ℕ) → bytes_eq x y ≡ false → bytes_eq y x ≡ false
name_turned x y h = name_not y x (λ e. name_apart x y h (sym e))

pub name_cases : (x y : List ℕ) → (x ≡ y) ⊎ (bytes_eq x y ≡ false)
name_cases x y = cases (bytes_eq x y) refl
  where
    cases : (b : Bool) → bytes_eq x y ≡ b → (x ≡ y) ⊎ (bytes_eq x y ≡ false)
    cases true h = inl (same_name x y h)
    cases false h = inr h

-- what holds of each name holds of each that is among them, and back
pub all_has : (P : List ℕ → Type 0) (names : List (List ℕ)) → AllByRecursion P names → (name : List ℕ) → has names name ≡ true → P name
all_has P [] all name h = absurd (false≢true h)
all_has P (first ∷ names) all name h =
    elim (or_cases (bytes_eq name first) (has names name) h) as (λ _. P name) [
      | inl e ↦ subst P (sym (same_name name first e)) all.0
      | inr k ↦ all_has P names all.1 name k
    ]

pub has_head : (first : List ℕ) (names : List (List ℕ)) → has (first ∷ names) first ≡ true
has_head first names = or_left (bytes_eq first first) (has names first) (name_itself first)

pub has_tail : (first : List ℕ) (names : List (List ℕ)) (name : List ℕ) → has names name ≡ true → has (first ∷ names) name ≡ true
has_tail first names name h = or_right (bytes_eq name first) (has names name) h

pub all_from_has : (P : List ℕ → Type 0) (names : List (List ℕ)) → ((name : List ℕ) → has names name ≡ true → P name) → AllByRecursion P names
all_from_has P [] h = tt
all_from_has P (first ∷ names) h = (h first (has_head first names), all_from_has P names (λ name k. h name (has_tail first names name k)))

pub has_append : (xs ys : List (List ℕ)) (name : List ℕ) → has (xs ++ ys) name ≡ (has xs name || has ys name)
has_append [] ys name = refl
has_append (x ∷ xs) ys name = cases (bytes_eq name x) (has_append xs ys name)
  where
    cases : (b : Bool) → has (xs ++ ys) name ≡ (has xs name || has ys name) → (b || has (xs ++ ys) name) ≡ ((b || has xs name) || has ys name)
    cases true rest = refl
    cases false rest = rest

pub has_front : (xs ys : List (List ℕ)) (name : List ℕ) → has xs name ≡ true → has (xs ++ ys) name ≡ true
has_front xs ys name h = has_append xs ys name ∙ or_left (has xs name) (has ys name) h

pub has_back : (xs ys : List (List ℕ)) (name : List ℕ) → has ys name ≡ true → has (xs ++ ys) name ≡ true
has_back xs ys name h = has_append xs ys name ∙ or_right (has xs name) (has ys name) h

pub has_either : (xs ys : List (List ℕ)) (name : List ℕ) → has (xs ++ ys) name ≡ true → (has xs name ≡ true) ⊎ (has ys name ≡ true)
has_either xs ys name h = or_cases (has xs name) (has ys name) (sym (has_append xs ys name) ∙ h)

pub has_neither : (xs ys : List (List ℕ)) (name : List ℕ) → has (xs ++ ys) name ≡ false → (has xs name ≡ false) × (has ys name ≡ false)
has_neither xs ys name h = or_parts (has xs name) (has ys name) (sym (has_append xs ys name) ∙ h)

pub has_none : (xs ys : List (List ℕ)) (name : List ℕ) → has xs name ≡ false → has ys name ≡ false → has (xs ++ ys) name ≡ false
has_none xs ys name h k = has_append xs ys name ∙ or_from (has xs name) (has ys name) h k

pub has_apart : (first : List ℕ) (names : List (List ℕ)) (name : List ℕ) → bytes_eq name first ≡ false → has names name ≡ false → has (first ∷ names) name ≡ false
has_apart first names name h k = or_from (bytes_eq name first) (has names name) h k

-- what no list has that the other one lacks
pub has_not : (xs : List (List ℕ)) (name : List ℕ) → (has xs name ≡ true → ⊥) → has xs name ≡ false
has_not xs name h = false_from_ne_true (has xs name) h

-- lists of names with no name twice
pub record AreApart (xs ys : List (List ℕ)) : Type 0 where
  pub front : all_different xs ≡ true
  pub back : all_different ys ≡ true
  pub between : (name : List ℕ) → has xs name ≡ true → has ys name ≡ true → ⊥

pub different_head : (first : List ℕ) (names : List (List ℕ)) → all_different (first ∷ names) ≡ true → has names first ≡ false
unfolding all_different
different_head first names h = not-true (has names first) (and_parts (not (has names first)) (all_different names) h).0

pub different_tail : (first : List ℕ) (names : List (List ℕ)) → all_different (first ∷ names) ≡ true → all_different names ≡ true
unfolding all_different
different_tail first names h = (and_parts (not (has names first)) (all_different names) h).1

pub different_cons : (first : List ℕ) (names : List (List ℕ)) → has names first ≡ false → all_different names ≡ true → all_different (first ∷ names) ≡ true
unfolding all_different
different_cons first names h k = and_from (not (has names first)) (all_different names) (not_from_false (has names first) h) k

pub different_none : all_different [] ≡ true
unfolding all_different
different_none = refl

pub different_apart : (xs ys : List (List ℕ)) → all_different (xs ++ ys) ≡ true → AreApart xs ys
different_apart [] ys h = record { front = different_none; back = h; between = λ name k l. false≢true k }
different_apart (x ∷ xs) ys h = grown (different_apart xs ys (different_tail x (xs ++ ys) h)) (has_neither xs ys x (different_head x (xs ++ ys) h))
  where
    grown : AreApart xs ys → (has xs x ≡ false) × (has ys x ≡ false) → AreApart (x ∷ xs) ys
    grown rest new = record {
      front = different_cons x xs new.0 rest.front;
      back = rest.back;
      between = λ name k l.
          elim (or_cases (bytes_eq name x) (has xs name) k) as (λ _. ⊥) [
            | inl e ↦ false≢true (sym new.1 ∙ subst (λ (n : List ℕ). has ys n ≡ true) (same_name name x e) l)
            | inr m ↦ rest.between name m l
          ];
    }

pub apart_different : (xs ys : List (List ℕ)) → AreApart xs ys → all_different (xs ++ ys) ≡ true
apart_different [] ys h = h.back
apart_different (x ∷ xs) ys h =
    different_cons x (xs ++ ys)
    (has_none xs ys x (different_head x xs h.front) (has_not ys x (λ l. h.between x (has_head x xs) l)))
    (apart_different xs ys (record {
      front = different_tail x xs h.front;
      back = h.back;
      between = λ name k l. h.between name (has_tail x xs name k) l;
    }))
