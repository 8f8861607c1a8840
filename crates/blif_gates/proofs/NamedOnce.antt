-- Lists of names that hold the same ones, one of them with no name twice: the other has none twice just where it is as long.
use Rattle.std.proofs.Common.{◌≡◌, ℕ, suc, ◌≤◌, Bool, true, false, not, ◌||◌, if◌then◌else◌, List, [], ◌∷◌, length, bytes_eq, refl, sym, ◌∙◌, ap, arith}
use Rattle.std.specs.List.{list_all}
use Rattle.std.proofs.lemmas.Bool.{false≢true, or_left, or_right, or_parts, and_parts, and_from, not_from_false, not-true, false_from_ne_true}
use Rattle.circuit_model.specs.Names.{has, all_different}
use Rattle.circuit_tables.proofs.Once.{same_name, itself, bytes_eq-sym}
use Rattle.cube_cover.proofs.Points.{and_left, and_right}

-- names without the first of a name
abbrev without : List ℕ → List (List ℕ) → List (List ℕ)
without name [] = []
without name (first ∷ names) = if bytes_eq name first then names else first ∷ without name names

one_less : (name : List ℕ) (names : List (List ℕ)) → has names name ≡ true → length names ≡ suc (length (without name names))
one_less name [] h = absurd (false≢true h)
one_less name (first ∷ names) h = by (bytes_eq name first) h (λ k. one_less name names k)
  where
    by : (b : Bool) → (b || has names name) ≡ true → (has names name ≡ true → length names ≡ suc (length (without name names))) → suc (length names) ≡ suc (length (if b then names else first ∷ without name names))
    by true k rest = refl
    by false k rest = ap suc (rest k)

second : (a b : Bool) → a ≡ false → (a || b) ≡ true → b ≡ true
second false b e h = h
second true b e h = absurd (false≢true (sym e))

-- another name stays
still_has : (name other : List ℕ) (names : List (List ℕ)) → bytes_eq other name ≡ false → has names other ≡ true → has (without name names) other ≡ true
still_has name other [] d h = absurd (false≢true h)
still_has name other (first ∷ names) d h = by (bytes_eq name first) refl (λ k. still_has name other names d k)
  where
    grows : (b : Bool) → (b || has names other) ≡ true → (has names other ≡ true → has (without name names) other ≡ true) → (b || has (without name names) other) ≡ true
    grows true k rest = refl
    grows false k rest = rest k

    by : (b : Bool) → bytes_eq name first ≡ b → (has names other ≡ true → has (without name names) other ≡ true) → has (if b then names else first ∷ without name names) other ≡ true
    by true e rest = second (bytes_eq other first) (has names other) (ap (bytes_eq other) (sym (same_name name first e)) ∙ d) h
    by false e rest = grows (bytes_eq other first) h rest

all_still : (name : List ℕ) (names known : List (List ℕ)) → has known name ≡ false → list_all (has names) known ≡ true → list_all (has (without name names)) known ≡ true
all_still name names [] d h = refl
all_still name names (first ∷ known) d h =
    let apart = or_parts (bytes_eq name first) (has known name) d in
    and_from (has (without name names) first) (list_all (has (without name names)) known)
    (still_has name first names (bytes_eq-sym first name ∙ apart.0) (and_left _ _ h)) (all_still name names known apart.1 (and_right _ _ h))

-- names that are different without one that is left out are different
different_back : (name : List ℕ) (names : List (List ℕ)) → all_different (without name names) ≡ true → has (without name names) name ≡ false → all_different names ≡ true
unfolding all_different
different_back name [] d h = refl
different_back name (first ∷ names) d h = by (bytes_eq name first) refl d h (λ e k. different_back name names e k)
  where
    by : (b : Bool) → bytes_eq name first ≡ b → all_different (if b then names else first ∷ without name names) ≡ true → has (if b then names else first ∷ without name names) name ≡ false
        → (all_different (without name names) ≡ true → has (without name names) name ≡ false → all_different names ≡ true) → all_different (first ∷ names) ≡ true
    by true e d h rest =
        let new : has names first ≡ false = ap (has names) (sym (same_name name first e)) ∙ h in
        and_from _ _ (not_from_false (has names first) new) d
    by false e d h rest =
        let parts = and_parts (not (has (without name names) first)) (all_different (without name names)) d in
        let new : has names first ≡ false =
        false_from_ne_true (has names first) (λ k. false≢true (sym (not-true (has (without name names) first) parts.0) ∙ still_has name first names (bytes_eq-sym first name ∙ e) k)) in
        and_from _ _ (not_from_false (has names first) new) (rest parts.1 (or_parts (bytes_eq name first) (has (without name names) name) h).1)

-- names that are all different, and those of another list that are as many, or fewer
pub record AreThese (known names : List (List ℕ)) : Type 0 where
  pub different : all_different names ≡ true
  pub within : (name : List ℕ) → has names name ≡ true → has known name ≡ true

pub these : (known names : List (List ℕ)) → all_different known ≡ true → length names ≡ length known → list_all (has names) known ≡ true → AreThese known names
unfolding all_different
these [] [] d e h = record { different = refl; within = λ name k. k }
these [] (name ∷ names) d e h = absurd (omega (arith, e))
these (first ∷ known) names d e h =
    let parts = and_parts (not (has known first)) (all_different known) d in
    let new : has known first ≡ false = not-true (has known first) parts.0 in
    let less : length names ≡ suc (length (without first names)) = one_less first names (and_left _ _ h) in
    rest new (these known (without first names) parts.1 (omega (arith, less, e)) (all_still first names known new (and_right _ _ h)))
  where
    rest : has known first ≡ false → AreThese known (without first names) → AreThese (first ∷ known) names
    rest new r = record {
      different = different_back first names r.different (false_from_ne_true (has (without first names) first) (λ k. false≢true (sym new ∙ r.within first k)));
      within = λ name k. by name (bytes_eq name first) refl k;
    }
      where
        by : (name : List ℕ) (b : Bool) → bytes_eq name first ≡ b → has names name ≡ true → (b || has known name) ≡ true
        by name true f k = refl
        by name false f k = r.within name (still_has first name names f k)

pub at_most : (known names : List (List ℕ)) → all_different known ≡ true → list_all (has names) known ≡ true → length known ≤ length names
unfolding all_different
at_most [] names d h = omega arith
at_most (first ∷ known) names d h =
    let parts = and_parts (not (has known first)) (all_different known) d in
    let new : has known first ≡ false = not-true (has known first) parts.0 in
    let less : length names ≡ suc (length (without first names)) = one_less first names (and_left (has names first) (list_all (has names) known) h) in
    let rest : length known ≤ length (without first names) = at_most known (without first names) parts.1 (all_still first names known new (and_right (has names first) (list_all (has names) known) h)) in
    omega (arith, less, rest)

-- each name of a list is among those among which all of it are
pub all_among : (names known : List (List ℕ)) → ((name : List ℕ) → has known name ≡ true → has names name ≡ true) → list_all (has names) known ≡ true
all_among names [] h = refl
all_among names (first ∷ known) h =
    and_from (has names first) (list_all (has names) known)
    (h first (or_left (bytes_eq first first) (has known first) (itself first)))
    (all_among names known (λ name k. h name (or_right (bytes_eq name first) (has known name) k)))

pub among_all : (names known : List (List ℕ)) → list_all (has names) known ≡ true → (name : List ℕ) → has known name ≡ true → has names name ≡ true
among_all names [] h name k = absurd (false≢true k)
among_all names (first ∷ known) h name k = by (bytes_eq name first) refl k (λ l. among_all names known (and_right _ _ h) name l)
  where
    by : (b : Bool) → bytes_eq name first ≡ b → (b || has known name) ≡ true → (has known name ≡ true → has names name ≡ true) → has names name ≡ true
    by true e l rest = ap (has names) (same_name name first e) ∙ and_left _ _ h
    by false e l rest = rest l

-- two tests that pass together are the same
pub same_truth : (a b : Bool) → (a ≡ true → b ≡ true) → (b ≡ true → a ≡ true) → a ≡ b
same_truth true b f g = sym (f refl)
same_truth false true f g = g refl
same_truth false false f g = refl
