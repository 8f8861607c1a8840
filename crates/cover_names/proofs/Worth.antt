-- The values of rows, cubes and covers.
use Rattle.std.proofs.Common.{◌≡◌, ℕ, Bool, true, false, not, ◌&&◌, ◌||◌, cond, Option, Some, None, List, [], ◌∷◌, map, bytes_eq, Ordering, Less, Equal, Greater, refl, sym, ap, ap₂, ◌∙◌, subst, inl, inr, option_map, find}
use Rattle.std.specs.List.{list_all, list_any, AllByRecursion}
use Rattle.std.proofs.lemmas.Bool.{and_parts, and_from, or_cases, or_parts, not-true, false≢true}
use Rattle.std.proofs.lemmas.Slice.Eq.{bytes_eq-Decides}
use Rattle.sis_base.specs.Rows.{agrees, matches, some_matches}
use Rattle.circuit_model.specs.Names.{has, all_different}
use Rattle.cover_names.specs.Literals.{Cube, NamedCover, cube_cmp, put_by, put_in, sorted, sorted_cube}
use Rattle.cover_names.specs.Cubes.{cube_over, literal_of, row_over, cover_over, cube_value, cover_value}
use Rattle.cover_names.specs.declared.literal.Literal.{Literal}
use Rattle.cover_names.proofs.Orders.{IsOrder, literal_order, cube_order}

-- ---- a test of all or of some items does not depend on their order, nor on how often each occurs

and_turned : (a b c : Bool) → (b && (a && c)) ≡ (a && (b && c))
and_turned true b c = refl
and_turned false true c = refl
and_turned false false c = refl

and_twice : (a b : Bool) → (a && b) ≡ (a && (a && b))
and_twice true b = refl
and_twice false b = refl

or_turned : (a b c : Bool) → (b || (a || c)) ≡ (a || (b || c))
or_turned false b c = refl
or_turned true true c = refl
or_turned true false c = refl

or_twice : (a b : Bool) → (a || b) ≡ (a || (a || b))
or_twice true b = refl
or_twice false b = refl

module _ {X : Type 0} {cmp : X → X → Ordering} (order : IsOrder cmp) (test : X → Bool) where
  pub all_put : (item : X) (xs : List X) → list_all test (put_in cmp item xs) ≡ (test item && list_all test xs)
  unfolding put_in
  all_put item [] = refl
  all_put item (first ∷ xs) = cases (cmp item first) refl (all_put item xs)
    where
      cases : (o : Ordering) → cmp item first ≡ o → list_all test (put_in cmp item xs) ≡ (test item && list_all test xs)
          → list_all test (put_by o item first xs (put_in cmp item xs)) ≡ (test item && (test first && list_all test xs))
      cases Less h rest = refl
      cases Equal h rest = and_twice (test first) (list_all test xs) ∙ ap (λ (x : X). test x && (test first && list_all test xs)) (sym (order.same item first h))
      cases Greater h rest = ap (λ (b : Bool). test first && b) rest ∙ and_turned (test item) (test first) (list_all test xs)

  pub all_sorted : (xs : List X) → list_all test (sorted cmp xs) ≡ list_all test xs
  unfolding sorted
  all_sorted [] = refl
  all_sorted (x ∷ xs) = all_put x (sorted cmp xs) ∙ ap (λ (b : Bool). test x && b) (all_sorted xs)

  pub any_put : (item : X) (xs : List X) → list_any test (put_in cmp item xs) ≡ (test item || list_any test xs)
  unfolding put_in
  any_put item [] = refl
  any_put item (first ∷ xs) = cases (cmp item first) refl (any_put item xs)
    where
      cases : (o : Ordering) → cmp item first ≡ o → list_any test (put_in cmp item xs) ≡ (test item || list_any test xs)
          → list_any test (put_by o item first xs (put_in cmp item xs)) ≡ (test item || (test first || list_any test xs))
      cases Less h rest = refl
      cases Equal h rest = or_twice (test first) (list_any test xs) ∙ ap (λ (x : X). test x || (test first || list_any test xs)) (sym (order.same item first h))
      cases Greater h rest = ap (λ (b : Bool). test first || b) rest ∙ or_turned (test item) (test first) (list_any test xs)

  pub any_sorted : (xs : List X) → list_any test (sorted cmp xs) ≡ list_any test xs
  unfolding sorted
  any_sorted [] = refl
  any_sorted (x ∷ xs) = any_put x (sorted cmp xs) ∙ ap (λ (b : Bool). test x || b) (any_sorted xs)

pub sorted_cube_worth : (value : List ℕ → Bool) (cube : Cube) → cube_value value (sorted_cube cube) ≡ cube_value value cube
sorted_cube_worth value cube = all_sorted literal_order (λ (literal : Literal). agrees (Some literal.bit) (value literal.name)) cube

pub sorted_cover_worth : (value : List ℕ → Bool) (cover : NamedCover) → cover_value value (sorted cube_cmp cover) ≡ cover_value value cover
sorted_cover_worth value cover = any_sorted cube_order (cube_value value) cover

-- ---- cubes of rows

pub cube_over_worth : (value : List ℕ → Bool) (names : List (List ℕ)) (row : List (Option Bool)) → matches row (map value names) ≡ cube_value value (cube_over names row)
unfolding matches cube_over
cube_over_worth value [] [] = refl
cube_over_worth value [] (place ∷ row) = refl
cube_over_worth value (name ∷ names) [] = refl
cube_over_worth value (name ∷ names) (None ∷ row) = cube_over_worth value names row
cube_over_worth value (name ∷ names) (Some bit ∷ row) = ap (λ (b : Bool). agrees (Some bit) (value name) && b) (cube_over_worth value names row)

-- the cubes of rows, each sorted
pub cubes_over_worth : (value : List ℕ → Bool) (names : List (List ℕ)) (rows : List (List (Option Bool)))
    → cover_value value (map (λ row. sorted_cube (cube_over names row)) rows) ≡ some_matches rows (map value names)
unfolding some_matches
cubes_over_worth value names [] = refl
cubes_over_worth value names (row ∷ rows) =
    ap₂ (λ (a b : Bool). a || b) (sorted_cube_worth value (cube_over names row) ∙ sym (cube_over_worth value names row)) (cubes_over_worth value names rows)

pub cover_over_worth : (value : List ℕ → Bool) (names : List (List ℕ)) (rows : List (List (Option Bool))) → cover_value value (cover_over names rows) ≡ some_matches rows (map value names)
cover_over_worth value names rows = sorted_cover_worth value (map (λ row. sorted_cube (cube_over names row)) rows) ∙ cubes_over_worth value names rows

-- ---- rows of cubes

-- the bit of a cube's first literal of a name, by the cube's first literal
pub literal_of_cons : (literal : Literal) (cube : Cube) (name : List ℕ) → literal_of (literal ∷ cube) name ≡ cond (bytes_eq literal.name name) (Some literal.bit) (literal_of cube name)
literal_of_cons literal cube name = cases (bytes_eq literal.name name)
  where
    cases : (b : Bool) → option_map (λ (literal : Literal). literal.bit) (cond b (Some literal) (find (λ (literal : Literal). bytes_eq literal.name name) cube))
        ≡ cond b (Some literal.bit) (literal_of cube name)
    cases true = refl
    cases false = refl

pub row_matches_worth : (value : List ℕ → Bool) (place_of : List ℕ → Option Bool) (names : List (List ℕ))
    → matches (map place_of names) (map value names) ≡ list_all (λ name. agrees (place_of name) (value name)) names
unfolding matches
row_matches_worth value place_of [] = refl
row_matches_worth value place_of (name ∷ names) = ap (λ (b : Bool). agrees (place_of name) (value name) && b) (row_matches_worth value place_of names)

-- if a cube is true, its bit of each name agrees with the name's value
place_agrees : (value : List ℕ → Bool) (cube : Cube) (name : List ℕ) → cube_value value cube ≡ true → agrees (literal_of cube name) (value name) ≡ true
place_agrees value [] name h = refl
place_agrees value (literal ∷ cube) name h =
    let parts = and_parts (agrees (Some literal.bit) (value literal.name)) (cube_value value cube) h in
    subst (λ (place : Option Bool). agrees place (value name) ≡ true) (sym (literal_of_cons literal cube name))
    (cases (bytes_eq literal.name name) refl parts.0 (place_agrees value cube name parts.1))
  where
    cases : (b : Bool) → bytes_eq literal.name name ≡ b → agrees (Some literal.bit) (value literal.name) ≡ true → agrees (literal_of cube name) (value name) ≡ true
        → agrees (cond b (Some literal.bit) (literal_of cube name)) (value name) ≡ true
    cases true e first rest = subst (λ (other : List ℕ). agrees (Some literal.bit) (value other) ≡ true) ((bytes_eq-Decides literal.name name).0 e) first
    cases false e first rest = rest

-- if a cube is true, so is its row
row_if_cube : (value : List ℕ → Bool) (names : List (List ℕ)) (cube : Cube) → cube_value value cube ≡ true → list_all (λ name. agrees (literal_of cube name) (value name)) names ≡ true
row_if_cube value [] cube h = refl
row_if_cube value (name ∷ names) cube h = and_from _ _ (place_agrees value cube name h) (row_if_cube value names cube h)

-- what holds of all names holds of one that is among them
all_has : (test : List ℕ → Bool) (names : List (List ℕ)) (name : List ℕ) → list_all test names ≡ true → has names name ≡ true → test name ≡ true
all_has test [] name h m = absurd (false≢true m)
all_has test (first ∷ names) name h m =
    let parts = and_parts (test first) (list_all test names) h in
    elim (or_cases (bytes_eq name first) (has names name) m) as (λ _. test name ≡ true) [
      | inl e ↦ subst (λ (other : List ℕ). test other ≡ true) (sym ((bytes_eq-Decides name first).0 e)) parts.0
      | inr n ↦ all_has test names name parts.1 n
    ]

-- a cube is true if all names agree with its literals
cube_if_places : (value : List ℕ → Bool) (names : List (List ℕ)) (place_of : List ℕ → Option Bool) (cube : Cube)
    → AllByRecursion (λ (literal : Literal). place_of literal.name ≡ Some literal.bit) cube → list_all (λ (literal : Literal). has names literal.name) cube ≡ true
    → list_all (λ name. agrees (place_of name) (value name)) names ≡ true → cube_value value cube ≡ true
cube_if_places value names place_of [] stands over h = refl
cube_if_places value names place_of (literal ∷ cube) stands over h =
    let parts = and_parts (has names literal.name) (list_all (λ (literal : Literal). has names literal.name) cube) over in
    and_from _ _
    (subst (λ (place : Option Bool). agrees place (value literal.name) ≡ true) stands.0 (all_has (λ name. agrees (place_of name) (value name)) names literal.name h parts.0))
    (cube_if_places value names place_of cube stands.1 parts.1 h)

-- the names of a cube's literals
abbrev pub names_of : Cube → List (List ℕ)
names_of cube = map (λ (literal : Literal). literal.name) cube

-- another literal before those of the names, which has none of these names
stand_behind : (literal : Literal) (whole cube : Cube) → has (names_of cube) literal.name ≡ false
    → AllByRecursion (λ (other : Literal). literal_of whole other.name ≡ Some other.bit) cube → AllByRecursion (λ (other : Literal). literal_of (literal ∷ whole) other.name ≡ Some other.bit) cube
stand_behind literal whole [] apart stands = tt
stand_behind literal whole (other ∷ cube) apart stands =
    let parts = or_parts (bytes_eq literal.name other.name) (has (names_of cube) literal.name) apart in (
      literal_of_cons literal whole other.name ∙ ap (λ (b : Bool). cond b (Some literal.bit) (literal_of whole other.name)) parts.0 ∙ stands.0,
      stand_behind literal whole cube parts.1 stands.1,
    )

-- in a cube of different names each literal is found by its name
pub literals_stand : (cube : Cube) → all_different (names_of cube) ≡ true → AllByRecursion (λ (literal : Literal). literal_of cube literal.name ≡ Some literal.bit) cube
unfolding all_different
literals_stand [] h = tt
literals_stand (literal ∷ cube) h =
    let parts = and_parts (not (has (names_of cube) literal.name)) (all_different (names_of cube)) h in (
      literal_of_cons literal cube literal.name ∙ ap (λ (b : Bool). cond b (Some literal.bit) (literal_of cube literal.name)) ((bytes_eq-Decides literal.name literal.name).1 refl),
      stand_behind literal cube cube (not-true (has (names_of cube) literal.name) parts.0) (literals_stand cube parts.1),
    )

pub same_bits : (one other : Bool) → (one ≡ true → other ≡ true) → (other ≡ true → one ≡ true) → one ≡ other
same_bits true other f g = sym (f refl)
same_bits false true f g = g refl
same_bits false false f g = refl

pub row_over_worth : (value : List ℕ → Bool) (names : List (List ℕ)) (cube : Cube) → all_different (names_of cube) ≡ true → list_all (λ (literal : Literal). has names literal.name) cube ≡ true
    → matches (row_over names cube) (map value names) ≡ cube_value value cube
row_over_worth value names cube apart over =
    row_matches_worth value (literal_of cube) names
    ∙ same_bits _ _ (cube_if_places value names (literal_of cube) cube (literals_stand cube apart) over) (row_if_cube value names cube)
