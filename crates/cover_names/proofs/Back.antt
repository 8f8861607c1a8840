-- From rows to cubes and back: the same rows.
use Rattle.std.proofs.Common.{◌≡◌, ◌↔◌, ◌||◌, ℕ, Bool, true, false, not, ◌&&◌, cond, Option, Some, None, List, [], ◌∷◌, map, length, bytes_eq, Contains, refl, sym, ap, ap₂, ◌∙◌, subst, inl, inr, arith, append-nil}
use Rattle.std.specs.List.{list_all}
use Rattle.std.proofs.lemmas.Bool.{and_parts, and_from, or_parts, not-true, false≢true, false_from_ne_true, or_left, or_right}
use Rattle.std.proofs.lemmas.Slice.Eq.{bytes_eq-Decides}
use Rattle.sis_base.specs.Rows.{HasWidth, some_matches}
use Rattle.circuit_model.specs.Names.{has, all_different}
use Rattle.cover_names.specs.Literals.{Cube, NamedCover, sorted_cube}
use Rattle.cover_names.specs.Cubes.{cube_over, literal_of, row_over, cover_over, is_over, names_in, cover_value}
use Rattle.cover_names.specs.declared.literal.Literal.{Literal}
use Rattle.cover_names.proofs.Members.{Has, contains_has, has_contains}
use Rattle.cover_names.proofs.Orders.{literal_order, cube_order}
use Rattle.cover_names.proofs.Sorting.{sorted_has, sorted_keeps}
use Rattle.cover_names.proofs.Worth.{names_of, literal_of_cons, row_over_worth, all_sorted}
use Rattle.cover_names.proofs.Names.{over_lacks, over_different, over_is_over, sorted_row, sorted_different}

-- a name that no literal has
pub literal_of_none : (cube : Cube) (name : List ℕ) → has (names_of cube) name ≡ false → literal_of cube name ≡ None
literal_of_none [] name h = refl
literal_of_none (literal ∷ cube) name h =
    let parts = or_parts (bytes_eq name literal.name) (has (names_of cube) name) h in
    let away : bytes_eq literal.name name ≡ false = false_from_ne_true (bytes_eq literal.name name) (λ e. false≢true (sym parts.0 ∙ (bytes_eq-Decides name literal.name).1 (sym ((bytes_eq-Decides literal.name name).0 e)))) in
    literal_of_cons literal cube name ∙ ap (λ (b : Bool). cond b (Some literal.bit) (literal_of cube name)) away ∙ literal_of_none cube name parts.1

-- the images of names are the same under functions that agree on the names
map_where : (f g : List ℕ → Option Bool) (names : List (List ℕ)) → ((name : List ℕ) → has names name ≡ true → f name ≡ g name) → map f names ≡ map g names
map_where f g [] h = refl
map_where f g (name ∷ names) h =
    ap₂ (λ (place : Option Bool) row. place ∷ row) (h name (or_left (bytes_eq name name) (has names name) ((bytes_eq-Decides name name).1 refl)))
    (map_where f g names (λ other m. h other (or_right (bytes_eq other name) (has names other) m)))

-- what a cube has for its first name, and for the others
over_first : (name : List ℕ) (names : List (List ℕ)) (place : Option Bool) (row : List (Option Bool)) → has names name ≡ false → literal_of (cube_over (name ∷ names) (place ∷ row)) name ≡ place
unfolding cube_over
over_first name names None row apart = literal_of_none (cube_over names row) name (over_lacks names row name apart)
over_first name names (Some bit) row apart =
    literal_of_cons (record { name = name; bit = bit }) (cube_over names row) name ∙ ap (λ (b : Bool). cond b (Some bit) (literal_of (cube_over names row) name)) ((bytes_eq-Decides name name).1 refl)

over_others : (name : List ℕ) (names : List (List ℕ)) (place : Option Bool) (row : List (Option Bool)) (other : List ℕ) → bytes_eq name other ≡ false
    → literal_of (cube_over (name ∷ names) (place ∷ row)) other ≡ literal_of (cube_over names row) other
unfolding cube_over
over_others name names None row other apart = refl
over_others name names (Some bit) row other apart =
    literal_of_cons (record { name = name; bit = bit }) (cube_over names row) other ∙ ap (λ (b : Bool). cond b (Some bit) (literal_of (cube_over names row) other)) apart

away_from : (name : List ℕ) (names : List (List ℕ)) (other : List ℕ) → has names name ≡ false → has names other ≡ true → bytes_eq name other ≡ false
away_from name names other apart m =
    false_from_ne_true (bytes_eq name other) (λ e. false≢true (sym apart ∙ subst (λ (n : List ℕ). has names n ≡ true) (sym ((bytes_eq-Decides name other).0 e)) m))

-- the row of the cube of a row is that row
pub row_back : (names : List (List ℕ)) (row : List (Option Bool)) → all_different names ≡ true → length row ≡ length names → row_over names (cube_over names row) ≡ row
unfolding all_different
row_back [] [] h width = refl
row_back [] (place ∷ row) h width = absurd (omega (arith, width))
row_back (name ∷ names) [] h width = absurd (omega (arith, width))
row_back (name ∷ names) (place ∷ row) h width =
    let parts = and_parts (not (has names name)) (all_different names) h in
    let apart = not-true (has names name) parts.0 in
    ap₂ (λ (place : Option Bool) row. place ∷ row) (over_first name names place row apart)
    (map_where (literal_of (cube_over (name ∷ names) (place ∷ row))) (literal_of (cube_over names row)) names (λ other m. over_others name names place row other (away_from name names other apart m))
    ∙ row_back names row parts.1 (omega (arith, width)))

pub sorted_row_back : (names : List (List ℕ)) (row : List (Option Bool)) → all_different names ≡ true → length row ≡ length names → row_over names (sorted_cube (cube_over names row)) ≡ row
sorted_row_back names row h width = sorted_row names (cube_over names row) (over_different names row h) ∙ row_back names row h width

-- ---- rows of a sorted cover

-- the items of a list of images, and what they are images of
pub map_has : {X Y : Type 0} (f : X → Y) (xs : List X) (x : X) → Has x xs → Has (f x) (map f xs)
map_has f [] x m = absurd m
map_has f (first ∷ xs) x m = elim m as (λ _. Has (f x) (map f (first ∷ xs))) [ inl e ↦ inl (ap f e) | inr n ↦ inr (map_has f xs x n) ]

pub has_map : {X Y : Type 0} (f : X → Y) (xs : List X) (y : Y) → Has y (map f xs) → (x : X) × Has x xs × (y ≡ f x)
has_map f [] y m = absurd m
has_map f (first ∷ xs) y m =
    elim m as (λ _. (x : _) × Has x (first ∷ xs) × (y ≡ f x)) [ inl e ↦ (first, inl refl, e) | inr n ↦ (let p = has_map f xs y n in (p.0, inr p.1, p.2)) ]

wide_row : (width : ℕ) (rows : List (List (Option Bool))) (row : List (Option Bool)) → HasWidth width rows → Has row rows → length row ≡ width
unfolding HasWidth
wide_row width [] row h m = absurd m
wide_row width (first ∷ rows) row h m =
    elim m as (λ _. length row ≡ width) [ inl e ↦ ap length e ∙ h.0 | inr n ↦ wide_row width rows row h.1 n ]

module _ (names : List (List ℕ)) (rows : List (List (Option Bool))) where
  cube_of : List (Option Bool) → Cube
  cube_of row = sorted_cube (cube_over names row)

  rows_kept : all_different names ≡ true → HasWidth (length names) rows → (row : List (Option Bool)) → Has row rows → Has row (map (row_over names) (cover_over names rows))
  unfolding cube_of
  rows_kept h wide row m =
      subst (λ (other : List (Option Bool)). Has other (map (row_over names) (cover_over names rows))) (sorted_row_back names row h (wide_row (length names) rows row wide m))
      (map_has (row_over names) (cover_over names rows) (cube_of row) (sorted_keeps cube_order (map cube_of rows) (cube_of row) (map_has cube_of rows row m)))

  rows_only : all_different names ≡ true → HasWidth (length names) rows → (row : List (Option Bool)) → Has row (map (row_over names) (cover_over names rows)) → Has row rows
  unfolding cube_of
  rows_only h wide row m =
      let (cube, among, e) = has_map (row_over names) (cover_over names rows) row m in
      let (old, here, f) = has_map cube_of rows cube (sorted_has cube_order (map cube_of rows) cube among) in
      subst (λ (other : List (Option Bool)). Has other rows) (sym (e ∙ ap (row_over names) f ∙ sorted_row_back names old h (wide_row (length names) rows old wide here))) here

  pub rows_back : all_different names ≡ true → HasWidth (length names) rows → (row : List (Option Bool)) → Contains (map (row_over names) (cover_over names rows)) row ↔ Contains rows row
  rows_back h wide row = (
    λ k. contains_has row rows (rows_only h wide row (has_contains row (map (row_over names) (cover_over names rows)) k)),
    λ k. contains_has row (map (row_over names) (cover_over names rows)) (rows_kept h wide row (has_contains row rows k)),
  )

-- ---- the value of a cover over names by its rows

-- the names in each cube of a cover are different
abbrev pub all_apart : NamedCover → Bool
all_apart cover = list_all (λ (cube : Cube). all_different (names_of cube)) cover

-- the same, in the form of the clause
pub all_apart_in : (cover : NamedCover) → all_apart cover ≡ list_all (λ (cube : Cube). all_different (names_in (cube ∷ []))) cover
all_apart_in [] = refl
all_apart_in (cube ∷ cover) = ap₂ (λ (a b : Bool). a && b) (ap all_different (sym (append-nil (names_of cube)))) (all_apart_in cover)

pub rows_over_worth : (value : List ℕ → Bool) (names : List (List ℕ)) (cover : NamedCover) → all_apart cover ≡ true → is_over names cover ≡ true
    → some_matches (map (row_over names) cover) (map value names) ≡ cover_value value cover
unfolding some_matches
rows_over_worth value names [] apart over = refl
rows_over_worth value names (cube ∷ cover) apart over =
    let first = and_parts (all_different (names_of cube)) (all_apart cover) apart in
    let second = and_parts (list_all (λ (literal : Literal). has names literal.name) cube) (is_over names cover) over in
    ap₂ (λ (a b : Bool). a || b) (row_over_worth value names cube first.0 second.0) (rows_over_worth value names cover first.1 second.1)

-- the sorted cover of rows over names has literals of these names only, and the names in its cubes
-- are different if the names are different
all_cubes_over : (names : List (List ℕ)) (rows : List (List (Option Bool))) → is_over names (map (λ row. sorted_cube (cube_over names row)) rows) ≡ true
all_cubes_over names [] = refl
all_cubes_over names (row ∷ rows) =
    and_from _ _ (all_sorted literal_order (λ (literal : Literal). has names literal.name) (cube_over names row) ∙ over_is_over names row) (all_cubes_over names rows)

pub cover_over_is_over : (names : List (List ℕ)) (rows : List (List (Option Bool))) → is_over names (cover_over names rows) ≡ true
cover_over_is_over names rows =
    all_sorted cube_order (λ (cube : Cube). list_all (λ (literal : Literal). has names literal.name) cube) (map (λ row. sorted_cube (cube_over names row)) rows) ∙ all_cubes_over names rows

all_cubes_apart : (names : List (List ℕ)) (rows : List (List (Option Bool))) → all_different names ≡ true → all_apart (map (λ row. sorted_cube (cube_over names row)) rows) ≡ true
all_cubes_apart names [] h = refl
all_cubes_apart names (row ∷ rows) h = and_from _ _ (sorted_different (cube_over names row) (over_different names row h)) (all_cubes_apart names rows h)

pub cover_over_apart : (names : List (List ℕ)) (rows : List (List (Option Bool))) → all_different names ≡ true → all_apart (cover_over names rows) ≡ true
cover_over_apart names rows h =
    all_sorted cube_order (λ (cube : Cube). all_different (names_of cube)) (map (λ row. sorted_cube (cube_over names row)) rows) ∙ all_cubes_apart names rows h
