-- Covers as divisors: over the inputs of a table their rows are different, and have as many
-- literals as the cubes.
use Rattle.std.proofs.Common.{◌≡◌, ℕ, ◌+◌, Bool, true, false, cond, Option, Some, None, List, [], ◌∷◌, map, length, bytes_eq, Ordering, refl, sym, ap, ap₂, ◌∙◌, subst, inl, inr, arith}
use Rattle.std.specs.List.{list_all}
use Rattle.std.specs.List.Sorted.{IsStrictlySortedBy}
use Rattle.std.proofs.lemmas.Bool.{and_parts, or_cases, false≢true}
use Rattle.std.proofs.lemmas.List.Sums.{sum_by-cons}
use Rattle.circuit_model.specs.Counts.{literals_of_table}
use Rattle.circuit_model.specs.Names.{has, all_different}
use Rattle.circuit_laws.proofs.Names.{same_name, name_itself, name_not, has_head, has_tail, different_head, different_tail}
use Rattle.cube_cover.specs.Literals.{literal_number, row_literals}
use Rattle.alg_div.specs.Cubes.{Has}
use Rattle.net_candidates.specs.Candidates.{literals_in}
use Rattle.net_candidates.proofs.Sums.{AreOnce, once_mapped}
use Rattle.net_candidates.proofs.Products.{literals_in_all}
use Rattle.net_candidates.proofs.TidyLiterals.{table_literals}
use Rattle.net_candidates.proofs.Usable.{all_member}
use Rattle.cover_names.specs.Literals.{Cube, NamedCover, literal_cmp}
use Rattle.cover_names.specs.Cubes.{literal_of, row_over, is_over, names_in}
use Rattle.cover_names.specs.declared.literal.Literal.{Literal}
use Rattle.cover_names.proofs.Back.{all_apart, literal_of_none}
use Rattle.cover_names.proofs.Members.{Has as IsIn}
use Rattle.cover_names.proofs.Orders.{IsOrder, literal_order, not_below_itself}
use Rattle.cover_names.proofs.Sorting.{rises_head, rises_tail, rising_same}
use Rattle.cover_names.proofs.Worth.{names_of, literal_of_cons, literals_stand}
use Rattle.net_core.proofs.Rows.{all_places_back}
use Rattle.alg_tables.specs.Dividing.{sorted_names, cover_table}
use Rattle.alg_tables.proofs.CoverTables.{names_over, sorted_has_name, cover_table_once}
use Rattle.alg_tables.proofs.Quotients.{all_test}

-- ---- the items of a list, in two forms

pub has_in : {X : Type 0} (x : X) (xs : List X) → Has x xs → IsIn x xs
has_in x [] m = m
has_in x (y ∷ ys) m = elim m as (λ _. IsIn x (y ∷ ys)) [ inl e ↦ inl e | inr n ↦ inr (has_in x ys n) ]

pub in_has : {X : Type 0} (x : X) (xs : List X) → IsIn x xs → Has x xs
in_has x [] m = m
in_has x (y ∷ ys) m = elim m as (λ _. Has x (y ∷ ys)) [ inl e ↦ inl e | inr n ↦ inr (in_has x ys n) ]

-- the items of a rising list occur once
pub rising_once : {X : Type 0} {cmp : X → X → Ordering} → IsOrder cmp → (xs : List X) → IsStrictlySortedBy cmp xs → AreOnce xs
rising_once order [] h = tt
rising_once order (x ∷ xs) h = (
  λ m. not_below_itself order.total x (rises_head order x xs h x (has_in x xs m)),
  rising_once order xs (rises_tail order x xs h),
)

-- ---- a cube is determined by its row

pub map_at : (f g : List ℕ → Option Bool) (names : List (List ℕ)) → map f names ≡ map g names → (name : List ℕ) → has names name ≡ true → f name ≡ g name
map_at f g [] e name h = absurd (false≢true h)
map_at f g (first ∷ names) e name h =
    let here : f first ≡ g first = cc in
    let rest : map f names ≡ map g names = cc in
    elim (or_cases (bytes_eq name first) (has names name) h) as (λ _. f name ≡ g name) [
      | inl same ↦ subst (λ (x : List ℕ). f x ≡ g x) (sym (same_name name first same)) here
      | inr m ↦ map_at f g names rest name m
    ]

-- the literal of a name and a bit
literal_from : List ℕ → Bool → Literal
literal_from name bit = record { name = name; bit = bit }

pub found_literal : (cube : Cube) (literal : Literal) → literal_of cube literal.name ≡ Some literal.bit → Has literal cube
unfolding literal_from
found_literal [] literal e = absurd cc
found_literal (first ∷ cube) literal e =
    cases (bytes_eq first.name literal.name) refl (sym (literal_of_cons first cube literal.name) ∙ e) (found_literal cube literal)
  where
    cases : (b : Bool) → bytes_eq first.name literal.name ≡ b → cond b (Some first.bit) (literal_of cube literal.name) ≡ Some literal.bit
        → (literal_of cube literal.name ≡ Some literal.bit → Has literal cube) → Has literal (first ∷ cube)
    cases true k h rest = let bits : literal.bit ≡ first.bit = cc in inl (ap₂ literal_from (sym (same_name first.name literal.name k)) bits)
    cases false k h rest = inr (rest h)

-- a cube that rises, whose names are different and among some
pub record IsProperCube (names : List (List ℕ)) (cube : Cube) : Type 0 where
  pub rises : IsStrictlySortedBy literal_cmp cube
  pub apart : all_different (names_of cube) ≡ true
  pub over : list_all (λ (literal : Literal). has names literal.name) cube ≡ true

literal_kept : (names : List (List ℕ)) (one other : Cube) → IsProperCube names one → row_over names one ≡ row_over names other → (literal : Literal) → Has literal one → Has literal other
literal_kept names one other proper e literal m =
    found_literal other literal
    (sym (map_at (literal_of one) (literal_of other) names e literal.name (all_test (λ (x : Literal). has names x.name) one literal proper.over m))
    ∙ all_member (λ (x : Literal). literal_of one x.name ≡ Some x.bit) one (literals_stand one proper.apart) literal m)

pub row_tells : (names : List (List ℕ)) (one other : Cube) → IsProperCube names one → IsProperCube names other → row_over names one ≡ row_over names other → one ≡ other
row_tells names one other first second e =
    rising_same literal_order one other first.rises second.rises
    (λ literal m. has_in literal other (literal_kept names one other first e literal (in_has literal one m)))
    (λ literal m. has_in literal one (literal_kept names other one second (sym e) literal (in_has literal other m)))

-- a cover whose cubes rise, occur once, and have different names
pub record IsProper (cover : NamedCover) : Type 0 where
  pub rise : (cube : Cube) → Has cube cover → IsStrictlySortedBy literal_cmp cube
  pub apart : all_apart cover ≡ true
  pub once : AreOnce cover

pub proper_cube : (names : List (List ℕ)) (cover : NamedCover) → IsProper cover → is_over names cover ≡ true → (cube : Cube) → Has cube cover → IsProperCube names cube
proper_cube names cover proper over cube m = record {
  rises = proper.rise cube m;
  apart = all_test (λ (x : Cube). all_different (names_of x)) cover cube proper.apart m;
  over = all_test (λ (x : Cube). list_all (λ (literal : Literal). has names literal.name) x) cover cube over m;
}

pub divisor_once : (names : List (List ℕ)) (cover : NamedCover) → IsProper cover → is_over names cover ≡ true → AreOnce (map (row_over names) cover)
divisor_once names cover proper over =
    once_mapped (row_over names) cover (λ one other m n e. row_tells names one other (proper_cube names cover proper over one m) (proper_cube names cover proper over other n) e) proper.once

-- ---- a row has as many literals as its cube

map_alike : (f g : List ℕ → Option Bool) (names : List (List ℕ)) → ((name : List ℕ) → has names name ≡ true → f name ≡ g name) → map f names ≡ map g names
map_alike f g [] h = refl
map_alike f g (first ∷ names) h =
    ap₂ (λ (place : Option Bool) (row : List (Option Bool)). place ∷ row) (h first (has_head first names)) (map_alike f g names (λ name m. h name (has_tail first names name m)))

one_more : (f g : List ℕ → Option Bool) (names : List (List ℕ)) (name : List ℕ) (bit : Bool) → all_different names ≡ true → has names name ≡ true → f name ≡ Some bit → g name ≡ None
    → ((other : List ℕ) → bytes_eq name other ≡ false → f other ≡ g other) → row_literals (map f names) ≡ 1 + row_literals (map g names)
unfolding row_literals
one_more f g [] name bit once h here none same = absurd (false≢true h)
one_more f g (first ∷ names) name bit once h here none same =
    elim (or_cases (bytes_eq name first) (has names name) h) as (λ _. row_literals (f first ∷ map f names) ≡ 1 + row_literals (g first ∷ map g names)) [
      | inl e ↦ at_first (same_name name first e)
      | inr m ↦ later m (one_more f g names name bit (different_tail first names once) m here none same)
    ]
  where
    unlike : (other : List ℕ) → has names other ≡ true → bytes_eq first other ≡ false
    unlike other m = name_not first other (λ e. false≢true (sym (different_head first names once) ∙ subst (λ (x : List ℕ). has names x ≡ true) (sym e) m))

    at_first : name ≡ first → row_literals (f first ∷ map f names) ≡ 1 + row_literals (g first ∷ map g names)
    at_first e =
        let rest : map f names ≡ map g names =
        map_alike f g names (λ other m. same other (subst (λ (x : List ℕ). bytes_eq x other ≡ false) (sym e) (unlike other m))) in
        let a : literal_number (f first) ≡ 1 = ap literal_number (ap f (sym e) ∙ here) in
        let b : literal_number (g first) ≡ 0 = ap literal_number (ap g (sym e) ∙ none) in
        let c : row_literals (map f names) ≡ row_literals (map g names) = ap row_literals rest in
        omega (arith, a, b, c)

    later : has names name ≡ true → row_literals (map f names) ≡ 1 + row_literals (map g names) → row_literals (f first ∷ map f names) ≡ 1 + row_literals (g first ∷ map g names)
    later m rest =
        let a : literal_number (f first) ≡ literal_number (g first) =
        ap literal_number (same first (name_not name first (λ e. false≢true (sym (different_head first names once) ∙ subst (λ (x : List ℕ). has names x ≡ true) e m)))) in
        omega (arith, a, rest)

no_literals : (names : List (List ℕ)) → row_literals (map (literal_of []) names) ≡ 0
unfolding row_literals
no_literals [] = refl
no_literals (name ∷ names) = let rest : row_literals (map (literal_of []) names) ≡ 0 = no_literals names in omega (arith, rest)

pub row_over_literals : (names : List (List ℕ)) (cube : Cube) → all_different names ≡ true → all_different (names_of cube) ≡ true → list_all (λ (literal : Literal). has names literal.name) cube ≡ true
    → row_literals (row_over names cube) ≡ length cube
row_over_literals names [] once apart over = no_literals names
row_over_literals names (literal ∷ cube) once apart over =
    let parts = and_parts (has names literal.name) (list_all (λ (x : Literal). has names x.name) cube) over in
    let more =
    one_more (literal_of (literal ∷ cube)) (literal_of cube) names literal.name literal.bit once parts.0
    (literal_of_cons literal cube literal.name ∙ ap (λ (b : Bool). cond b (Some literal.bit) (literal_of cube literal.name)) (name_itself literal.name))
    (literal_of_none cube literal.name (different_head literal.name (names_of cube) apart))
    (λ other e. literal_of_cons literal cube other ∙ ap (λ (b : Bool). cond b (Some literal.bit) (literal_of cube other)) e) in
    let rest = row_over_literals names cube once (different_tail literal.name (names_of cube) apart) parts.1 in
    omega (arith, more, rest)

pub rows_over_literals : (names : List (List ℕ)) (cover : NamedCover) → all_different names ≡ true → all_apart cover ≡ true → is_over names cover ≡ true
    → literals_in_all (map (row_over names) cover) ≡ literals_in cover
rows_over_literals names [] once apart over = refl
rows_over_literals names (cube ∷ cover) once apart over =
    let first = and_parts (all_different (names_of cube)) (all_apart cover) apart in
    let second = and_parts (list_all (λ (literal : Literal). has names literal.name) cube) (is_over names cover) over in
    let rest : literals_in_all (map (row_over names) cover) ≡ literals_in cover = rows_over_literals names cover once first.1 second.1 in
    let here = row_over_literals names cube once first.0 second.0 in
    omega (arith, rest, here, sum_by-cons row_literals (row_over names cube) (map (row_over names) cover), sum_by-cons length cube cover)

-- the table of a cover has the cover's literals
pub cover_table_literals : (name : List ℕ) (cover : NamedCover) → all_apart cover ≡ true → literals_of_table (cover_table name cover) ≡ literals_in cover
unfolding cover_table
cover_table_literals name cover apart =
    table_literals (cover_table name cover)
    ∙ (ap literals_in_all (all_places_back (map (row_over (sorted_names cover)) cover))
    ∙ rows_over_literals (sorted_names cover) cover (cover_table_once name cover) apart
    (names_over (sorted_names cover) cover (λ other m. sorted_has_name (names_in cover) other ∙ m)))
