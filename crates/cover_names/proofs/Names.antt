-- The names of a cube's literals: which a cube over names has, and which remain after sorting.
use Rattle.std.proofs.Common.{◌≡◌, ℕ, Bool, true, false, not, ◌||◌, cond, Option, Some, None, List, [], ◌∷◌, bytes_eq, Ordering, Less, Equal, Greater, refl, sym, ap, ap₂, ◌∙◌}
use Rattle.std.specs.List.{list_all, list_any}
use Rattle.std.proofs.lemmas.Bool.{and_parts, and_from, or_parts, or_from, or_left, or_right, not-true, not_from_false, false≢true, false_from_ne_true}
use Rattle.std.proofs.lemmas.Slice.Eq.{bytes_eq-Decides}
use Rattle.circuit_model.specs.Names.{has, all_different}
use Rattle.cover_names.specs.Literals.{Cube, literal_cmp, put_by, put_in, sorted, sorted_cube}
use Rattle.cover_names.specs.Cubes.{cube_over, literal_of, row_over}
use Rattle.cover_names.specs.declared.literal.Literal.{Literal}
use Rattle.cover_names.proofs.Orders.{literal_order}
use Rattle.cover_names.proofs.Worth.{names_of, literal_of_cons, any_put, any_sorted}

same_name : (one other : List ℕ) → bytes_eq one other ≡ true → one ≡ other
same_name one other h = (bytes_eq-Decides one other).0 h

name_itself : (name : List ℕ) → bytes_eq name name ≡ true
name_itself name = (bytes_eq-Decides name name).1 refl

name_turned : (one other : List ℕ) → bytes_eq one other ≡ false → bytes_eq other one ≡ false
name_turned one other h = false_from_ne_true (bytes_eq other one) (λ e. false≢true (sym h ∙ (bytes_eq-Decides one other).1 (sym (same_name other one e))))

-- ---- names of a cube over names

-- a cube over names has no name that is not among them
pub over_lacks : (names : List (List ℕ)) (row : List (Option Bool)) (name : List ℕ) → has names name ≡ false → has (names_of (cube_over names row)) name ≡ false
unfolding cube_over
over_lacks [] row name h = refl
over_lacks (first ∷ names) [] name h = refl
over_lacks (first ∷ names) (None ∷ row) name h = over_lacks names row name (or_parts (bytes_eq name first) (has names name) h).1
over_lacks (first ∷ names) (Some bit ∷ row) name h =
    let parts = or_parts (bytes_eq name first) (has names name) h in
    or_from (bytes_eq name first) _ parts.0 (over_lacks names row name parts.1)

-- over different names its names are different
pub over_different : (names : List (List ℕ)) (row : List (Option Bool)) → all_different names ≡ true → all_different (names_of (cube_over names row)) ≡ true
unfolding cube_over all_different
over_different [] row h = refl
over_different (first ∷ names) [] h = refl
over_different (first ∷ names) (None ∷ row) h = over_different names row (and_parts (not (has names first)) (all_different names) h).1
over_different (first ∷ names) (Some bit ∷ row) h =
    let parts = and_parts (not (has names first)) (all_different names) h in
    and_from _ _ (not_from_false _ (over_lacks names row first (not-true (has names first) parts.0))) (over_different names row parts.1)

all_with_more : (first : List ℕ) (names : List (List ℕ)) (cube : Cube) → list_all (λ (literal : Literal). has names literal.name) cube ≡ true
    → list_all (λ (literal : Literal). has (first ∷ names) literal.name) cube ≡ true
all_with_more first names [] h = refl
all_with_more first names (literal ∷ cube) h =
    let parts = and_parts (has names literal.name) (list_all (λ (literal : Literal). has names literal.name) cube) h in
    and_from _ _ (or_right (bytes_eq literal.name first) (has names literal.name) parts.0) (all_with_more first names cube parts.1)

-- all its literals have one of the names
pub over_is_over : (names : List (List ℕ)) (row : List (Option Bool)) → list_all (λ (literal : Literal). has names literal.name) (cube_over names row) ≡ true
unfolding cube_over
over_is_over [] row = refl
over_is_over (first ∷ names) [] = refl
over_is_over (first ∷ names) (None ∷ row) = all_with_more first names (cube_over names row) (over_is_over names row)
over_is_over (first ∷ names) (Some bit ∷ row) =
    and_from _ _ (or_left (bytes_eq first first) (has names first) (name_itself first)) (all_with_more first names (cube_over names row) (over_is_over names row))

-- ---- names of a sorted cube

has_name : (cube : Cube) (name : List ℕ) → has (names_of cube) name ≡ list_any (λ (literal : Literal). bytes_eq name literal.name) cube
has_name [] name = refl
has_name (literal ∷ cube) name = ap (λ (b : Bool). bytes_eq name literal.name || b) (has_name cube name)

put_names : (item : Literal) (cube : Cube) (name : List ℕ) → has (names_of (put_in literal_cmp item cube)) name ≡ (bytes_eq name item.name || has (names_of cube) name)
put_names item cube name =
    has_name (put_in literal_cmp item cube) name ∙ any_put literal_order (λ (literal : Literal). bytes_eq name literal.name) item cube
    ∙ ap (λ (b : Bool). bytes_eq name item.name || b) (sym (has_name cube name))

pub sorted_names : (cube : Cube) (name : List ℕ) → has (names_of (sorted_cube cube)) name ≡ has (names_of cube) name
sorted_names cube name = has_name (sorted_cube cube) name ∙ any_sorted literal_order (λ (literal : Literal). bytes_eq name literal.name) cube ∙ sym (has_name cube name)

put_different : (item : Literal) (cube : Cube) → has (names_of cube) item.name ≡ false → all_different (names_of cube) ≡ true → all_different (names_of (put_in literal_cmp item cube)) ≡ true
unfolding put_in all_different
put_different item [] apart h = refl
put_different item (first ∷ cube) apart h =
    let parts = and_parts (not (has (names_of cube) first.name)) (all_different (names_of cube)) h in
    let away = or_parts (bytes_eq item.name first.name) (has (names_of cube) item.name) apart in
    cases (literal_cmp item first)
    (and_from _ _ (not_from_false _ (put_names item cube first.name ∙ or_from _ _ (name_turned item.name first.name away.0) (not-true (has (names_of cube) first.name) parts.0)))
    (put_different item cube away.1 parts.1))
  where
    cases : (o : Ordering) → all_different (names_of (first ∷ put_in literal_cmp item cube)) ≡ true → all_different (names_of (put_by o item first cube (put_in literal_cmp item cube))) ≡ true
    cases Less rest = and_from _ _ (not_from_false _ apart) h
    cases Equal rest = h
    cases Greater rest = rest

-- if the names of a cube are different, those of the sorted cube are
pub sorted_different : (cube : Cube) → all_different (names_of cube) ≡ true → all_different (names_of (sorted_cube cube)) ≡ true
unfolding sorted all_different
sorted_different [] h = refl
sorted_different (literal ∷ cube) h =
    let parts = and_parts (not (has (names_of cube) literal.name)) (all_different (names_of cube)) h in
    put_different literal (sorted_cube cube) (sorted_names cube literal.name ∙ not-true (has (names_of cube) literal.name) parts.0) (sorted_different cube parts.1)

-- ---- the row of a sorted cube

two_tests : {X : Type 0} (a b : Bool) (x y z : X) → (a ≡ true → b ≡ true → ⊥) → cond a x (cond b y z) ≡ cond b y (cond a x z)
two_tests true true x y z h = absurd (h refl refl)
two_tests true false x y z h = refl
two_tests false true x y z h = refl
two_tests false false x y z h = refl

put_literal_of : (item : Literal) (cube : Cube) (name : List ℕ) → has (names_of cube) item.name ≡ false → literal_of (put_in literal_cmp item cube) name ≡ literal_of (item ∷ cube) name
unfolding put_in
put_literal_of item [] name apart = refl
put_literal_of item (first ∷ cube) name apart =
    let away = or_parts (bytes_eq item.name first.name) (has (names_of cube) item.name) apart in
    cases (literal_cmp item first) refl away.0 (put_literal_of item cube name away.1)
  where
    cases : (o : Ordering) → literal_cmp item first ≡ o → bytes_eq item.name first.name ≡ false → literal_of (put_in literal_cmp item cube) name ≡ literal_of (item ∷ cube) name
        → literal_of (put_by o item first cube (put_in literal_cmp item cube)) name ≡ literal_of (item ∷ (first ∷ cube)) name
    cases Less k away rest = refl
    cases Equal k away rest = absurd (false≢true (sym away ∙ (bytes_eq-Decides item.name first.name).1 (ap (λ (literal : Literal). literal.name) (literal_order.same item first k))))
    cases Greater k away rest =
        literal_of_cons first (put_in literal_cmp item cube) name
        ∙ ap (λ (place : Option Bool). cond (bytes_eq first.name name) (Some first.bit) place) (rest ∙ literal_of_cons item cube name)
        ∙ two_tests (bytes_eq first.name name) (bytes_eq item.name name) (Some first.bit) (Some item.bit) (literal_of cube name)
        (λ h l. false≢true (sym away ∙ (bytes_eq-Decides item.name first.name).1 (same_name item.name name l ∙ sym (same_name first.name name h))))
        ∙ ap (λ (place : Option Bool). cond (bytes_eq item.name name) (Some item.bit) place) (sym (literal_of_cons first cube name))
        ∙ sym (literal_of_cons item (first ∷ cube) name)

pub sorted_literal_of : (cube : Cube) (name : List ℕ) → all_different (names_of cube) ≡ true → literal_of (sorted_cube cube) name ≡ literal_of cube name
unfolding sorted all_different
sorted_literal_of [] name h = refl
sorted_literal_of (literal ∷ cube) name h =
    let parts = and_parts (not (has (names_of cube) literal.name)) (all_different (names_of cube)) h in
    put_literal_of literal (sorted_cube cube) name (sorted_names cube literal.name ∙ not-true (has (names_of cube) literal.name) parts.0)
    ∙ literal_of_cons literal (sorted_cube cube) name
    ∙ ap (λ (place : Option Bool). cond (bytes_eq literal.name name) (Some literal.bit) place) (sorted_literal_of cube name parts.1)
    ∙ sym (literal_of_cons literal cube name)

pub sorted_row : (names : List (List ℕ)) (cube : Cube) → all_different (names_of cube) ≡ true → row_over names (sorted_cube cube) ≡ row_over names cube
sorted_row [] cube h = refl
sorted_row (name ∷ names) cube h = ap₂ (λ (place : Option Bool) row. place ∷ row) (sorted_literal_of cube name h) (sorted_row names cube h)
