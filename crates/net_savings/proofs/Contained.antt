-- A cover divides a table only if each of its cubes is contained in a row of the table.
use Rattle.std.proofs.Common.{◌≡◌, ℕ, ◌+◌, ◌-◌, ◌<◌, ◌&&◌, ◌++◌, suc, not, Bool, true, false, Option, Some, None, List, [], ◌∷◌, map, filter, length, take, take_all, drop, get_or, bytes_eq, refl, sym, ap, ap₂, ◌∙◌, subst, inl, inr, arith}
use Rattle.std.specs.List.{list_all, list_any}
use Rattle.std.proofs.lemmas.Bool.{and_parts, or_cases, or_parts, or_left, or_right, not-true, false≢true}
use Rattle.std.proofs.lemmas.List.{length-drop, drop_more}
use Rattle.std.proofs.lemmas.Option.{none-some, same_Some}
use Rattle.circuit_model.specs.Names.{has, all_different}
use Rattle.circuit_model.specs.declared.circuit.Table.{Table}
use Rattle.circuit_laws.proofs.Names.{same_name, has_apart, different_cons, different_none}
use Rattle.cube_cover.specs.Literals.{literal_product}
use Rattle.alg_div.specs.Cubes.{Has, times, row_eq}
use Rattle.alg_div.specs.Steps.{strip, support}
use Rattle.alg_div.proofs.Lists.{Has-map}
use Rattle.alg_div.proofs.Terms.{strip-apart}
use Rattle.net_candidates.specs.Candidates.{same_literal, cubes_of}
use Rattle.net_candidates.specs.Pairs.{has_all}
use Rattle.net_candidates.proofs.ByTwo.{has_in}
use Rattle.net_candidates.proofs.Gains.{IsDivided, divided_or_not}
use Rattle.net_candidates.proofs.Local.{cube_of}
use Rattle.net_candidates.proofs.Usable.{all_member}
use Rattle.cover_names.specs.Literals.{Cube, NamedCover, sorted_cube}
use Rattle.cover_names.specs.Cubes.{cube_over, literal_of, row_over}
use Rattle.cover_names.specs.declared.literal.Literal.{Literal}
use Rattle.cover_names.proofs.Orders.{literal_order}
use Rattle.cover_names.proofs.Sorting.{sorted_keeps}
use Rattle.cover_names.proofs.Worth.{names_of, literals_stand}
use Rattle.net_core.specs.Tables.{places_of}
use Rattle.alg_tables.specs.Dividing.{firsts, is_made, quotient, has_no_cube, divided}
use Rattle.alg_tables.proofs.Divisions.{AreApart, rows_of, divisor, found}
use Rattle.alg_tables.proofs.Quotients.{kept_has, image_has, any_has, all_test, all_from}
use Rattle.net_savings.specs.Meeting.{is_apart, is_contained, is_met, IsAside}

-- ---- lists

any_from : {X : Type 0} (test : X → Bool) (xs : List X) (x : X) → Has x xs → test x ≡ true → list_any test xs ≡ true
any_from test [] x m h = absurd m
any_from test (first ∷ xs) x m h =
    elim m as (λ _. list_any test (first ∷ xs) ≡ true) [
      | inl e ↦ or_left (test first) (list_any test xs) (sym (ap test e) ∙ h)
      | inr n ↦ or_right (test first) (list_any test xs) (any_from test xs x n h)
    ]

any_front : {X : Type 0} (test : X → Bool) (xs ys : List X) → list_any test xs ≡ true → list_any test (xs ++ ys) ≡ true
any_front test [] ys h = absurd (false≢true h)
any_front test (x ∷ xs) ys h =
    elim (or_cases (test x) (list_any test xs) h) as (λ _. list_any test (x ∷ (xs ++ ys)) ≡ true) [
      | inl e ↦ or_left (test x) (list_any test (xs ++ ys)) e
      | inr n ↦ or_right (test x) (list_any test (xs ++ ys)) (any_front test xs ys n)
    ]

any_back : {X : Type 0} (test : X → Bool) (xs ys : List X) → list_any test ys ≡ true → list_any test (xs ++ ys) ≡ true
any_back test [] ys h = h
any_back test (x ∷ xs) ys h = or_right (test x) (list_any test (xs ++ ys)) (any_back test xs ys h)

pub some_cube : (q : List (List (Option Bool))) → has_no_cube q ≡ false → (cube : List (Option Bool)) × Has cube q
some_cube [] h = absurd (false≢true (sym h))
some_cube (cube ∷ q) h = (cube, inl refl)

-- ---- cubes without a name twice

named_has : (name : List ℕ) (cube : Cube) → list_any (λ (other : Literal). bytes_eq name other.name) cube ≡ false → has (names_of cube) name ≡ false
named_has name [] h = refl
named_has name (first ∷ cube) h =
    let parts = or_parts (bytes_eq name first.name) (list_any (λ (other : Literal). bytes_eq name other.name) cube) h in
    has_apart first.name (names_of cube) name parts.0 (named_has name cube parts.1)

pub apart_different : (cube : Cube) → is_apart cube ≡ true → all_different (names_of cube) ≡ true
apart_different [] h = different_none
apart_different (literal ∷ cube) h =
    let parts = and_parts (not (list_any (λ (other : Literal). bytes_eq literal.name other.name) cube)) (is_apart cube) h in
    different_cons literal.name (names_of cube)
    (named_has literal.name cube (not-true (list_any (λ (other : Literal). bytes_eq literal.name other.name) cube) parts.0))
    (apart_different cube parts.1)

-- one more literal: no later one has its name, or one has
module _ (cube : Cube) (i : ℕ) (one d : Literal) (below : i < length cube) (is : one ≡ get_or cube i d) (whole : is_apart (drop i cube) ≡ is_apart cube) where
  abbrev later : Cube
  later = take (length cube - (i + 1)) (drop (i + 1) cube)

  parted : (b : Bool) → list_any (λ (other : Literal). bytes_eq one.name other.name) later ≡ b → is_apart (drop i cube) ≡ (not b && is_apart (drop (i + 1) cube))
  parted b e =
      let all : later ≡ drop (i + 1) cube = take_all (length cube - (i + 1)) (drop (i + 1) cube) (omega (arith, length-drop (i + 1) cube)) in
      ap is_apart (drop_more cube i d below ∙ ap (λ (l : Literal). l ∷ drop (i + 1) cube) (sym is))
      ∙ ap (λ (c : Bool). not c && is_apart (drop (i + 1) cube)) (ap (list_any (λ (other : Literal). bytes_eq one.name other.name)) (sym all) ∙ e)

  pub apart_next : list_any (λ (other : Literal). bytes_eq one.name other.name) later ≡ false → is_apart (drop (i + 1) cube) ≡ is_apart cube
  apart_next e = sym (parted false e) ∙ whole

  pub apart_not : list_any (λ (other : Literal). bytes_eq one.name other.name) later ≡ true → is_apart cube ≡ false
  apart_not e = sym whole ∙ parted true e

-- ---- products, column by column

literal_from : List ℕ → Bool → Literal
literal_from name bit = record { name = name; bit = bit }

column : (x : Option Bool) (bit : Bool) → x ≡ None → literal_product x (Some bit) ≡ Some bit
column None bit e = refl
column (Some b) bit e = absurd (none-some b (sym e))

pub first_has : (literal : Literal) (name : List ℕ) (names : List (List ℕ)) (x : Option Bool) (row : List (Option Bool)) → bytes_eq literal.name name ≡ true → x ≡ Some literal.bit
    → Has literal (cube_over (name ∷ names) (x ∷ row))
unfolding cube_over literal_from
first_has literal name names None row same e = absurd (none-some literal.bit e)
first_has literal name names (Some bit) row same e = inl (ap₂ literal_from (same_name literal.name name same) (sym (same_Some bit literal.bit e)))

pub later_has : (literal : Literal) (name : List ℕ) (names : List (List ℕ)) (x : Option Bool) (row : List (Option Bool)) → Has literal (cube_over names row) → Has literal (cube_over (name ∷ names) (x ∷ row))
unfolding cube_over
later_has literal name names None row m = m
later_has literal name names (Some bit) row m = inr m

-- the product of a cube and one that has no name of it has the literals of both
product_has : (bits : List ℕ → Option Bool) (q : List (Option Bool)) (names : List (List ℕ)) → AreApart q (map bits names) → (literal : Literal) → has names literal.name ≡ true
    → bits literal.name ≡ Some literal.bit → Has literal (cube_over names (times q (map bits names)))
unfolding times
product_has bits q [] apart literal m k = absurd (false≢true m)
product_has bits [] (first ∷ names) apart literal m k =
    elim (or_cases (bytes_eq literal.name first) (has names literal.name) m) as (λ _. Has literal (cube_over (first ∷ names) (bits first ∷ map bits names))) [
      | inl same ↦ first_has literal first names (bits first) (map bits names) same (ap bits (sym (same_name literal.name first same)) ∙ k)
      | inr n ↦ later_has literal first names (bits first) (map bits names) (product_has bits [] names (λ i bit e. apart (suc i) bit e) literal n k)
    ]
product_has bits (x ∷ q) (first ∷ names) apart literal m k =
    elim (or_cases (bytes_eq literal.name first) (has names literal.name) m) as (λ _. Has literal (cube_over (first ∷ names) (literal_product x (bits first) ∷ times q (map bits names)))) [
      | inl same ↦ (let at : bits first ≡ Some literal.bit = ap bits (sym (same_name literal.name first same)) ∙ k in
          first_has literal first names (literal_product x (bits first)) (times q (map bits names)) same (ap (literal_product x) at ∙ column x literal.bit (apart 0 literal.bit at)))
      | inr n ↦ later_has literal first names (literal_product x (bits first)) (times q (map bits names)) (product_has bits q names (λ i bit e. apart (suc i) bit e) literal n k)
    ]

-- ---- quotients

-- the product of a cube of the quotient and a row of the divisor is a row, and they have no column
-- in common
pub record IsPart (rows : List (List (Option Bool))) (q k : List (Option Bool)) : Type 0 where
  pub there : Has (times q k) rows
  pub apart : AreApart q k

pub quotient_part : (width : ℕ) (rows d : List (List (Option Bool))) (q : List (Option Bool)) → Has q (quotient width rows d) → (k : List (Option Bool)) → Has k d → IsPart rows q k
unfolding quotient
quotient_part width rows [] q m k n = absurd n
quotient_part width rows (first ∷ d) q m k n =
    let (row, among, is) = image_has (strip (support width (first ∷ d))) (filter (is_made width rows first (first ∷ d)) (firsts rows)) q m in
    let made = (kept_has (is_made width rows first (first ∷ d)) (firsts rows) row among).1 in
    let cube : List (Option Bool) = strip (support width (first ∷ d)) row in
    let all = (and_parts (row_eq (times cube first) row) (list_all (λ other. list_any (row_eq (times cube other)) rows) (first ∷ d)) made).1 in
    let part : IsPart rows cube k = record {
      there = any_has (times cube k) rows (all_test (λ other. list_any (row_eq (times cube other)) rows) (first ∷ d) k all n);
      apart = strip-apart width (first ∷ d) row k n;
    } in
    subst (λ (c : List (Option Bool)). IsPart rows c k) (sym is) part

-- ---- a table that a cover divides

row_has : (table : Table) (row : List (Option Bool)) → Has row (map places_of table.rows) → Has (cube_of table.inputs row) (cubes_of table)
row_has table row m =
    let (written, among, e) = image_has places_of table.rows row m in
    subst (λ (x : List (Option Bool)). Has (cube_of table.inputs x) (cubes_of table)) (sym e)
    (Has-map (λ r. sorted_cube (cube_over table.inputs (places_of r))) written table.rows among)

-- one of its rows contains each cube of the cover
divided_contains : (name : List ℕ) (cover : NamedCover) (table : Table) → IsDivided name true cover table → (cube : Cube) → Has cube cover → is_apart cube ≡ true
    → list_any (has_all cube) (cubes_of table) ≡ true
divided_contains name cover table is cube m apart =
    let names : List (List ℕ) = table.inputs in
    let (q, among) = some_cube (found name true cover table) is.some in
    let part : IsPart (rows_of name true cover table) q (row_over names cube) =
    quotient_part (length names) (rows_of name true cover table) (divisor name true cover table) q among (row_over names cube) (Has-map (row_over names) cube cover m) in
    let over : list_all (λ (literal : Literal). has names literal.name) cube ≡ true =
    all_test (λ (c : Cube). list_all (λ (literal : Literal). has names literal.name) c) cover cube is.over m in
    let row : List (Option Bool) = times q (row_over names cube) in
    any_from (has_all cube) (cubes_of table) (cube_of names row) (row_has table row part.there)
    (all_from (λ (literal : Literal). list_any (same_literal literal) (cube_of names row)) cube
    (λ literal n. has_in (cube_of names row) literal
    (sorted_keeps literal_order (cube_over names row) literal
    (product_has (literal_of cube) q names part.apart literal (all_test (λ (l : Literal). has names l.name) cube literal over n)
    (all_member (λ (l : Literal). literal_of cube l.name ≡ Some l.bit) cube (literals_stand cube (apart_different cube apart)) literal n)))))

-- a table that is not met stays as it is
pub unmet_stays : (cover : NamedCover) (table : Table) → is_met (cubes_of table) cover ≡ false → (name : List ℕ) → divided name true cover table ≡ table
unmet_stays cover table unmet name =
    elim (divided_or_not name true cover table) as (λ _. divided name true cover table ≡ table) [
      | inl is ↦ absurd (false≢true (sym unmet ∙ all_from (is_contained (cubes_of table)) cover (λ cube m. cases is cube m (is_apart cube) refl)))
      | inr stays ↦ stays
    ]
  where
    cases : IsDivided name true cover table → (cube : Cube) → Has cube cover → (b : Bool) → is_apart cube ≡ b → is_contained (cubes_of table) cube ≡ true
    cases is cube m true e = or_right (not (is_apart cube)) (list_any (has_all cube) (cubes_of table)) (divided_contains name cover table is cube m e)
    cases is cube m false e = or_left (not (is_apart cube)) (list_any (has_all cube) (cubes_of table)) (ap not e)

-- ---- more rows

more_met : (rows more : List Cube) → ((cube : Cube) → list_any (has_all cube) rows ≡ true → list_any (has_all cube) more ≡ true) → (cover : NamedCover) → is_met rows cover ≡ true → is_met more cover ≡ true
more_met rows more wider cover h =
    all_from (is_contained more) cover (λ cube m. cases cube (all_test (is_contained rows) cover cube h m))
  where
    cases : (cube : Cube) → is_contained rows cube ≡ true → is_contained more cube ≡ true
    cases cube e =
        elim (or_cases (not (is_apart cube)) (list_any (has_all cube) rows) e) as (λ _. is_contained more cube ≡ true) [
          | inl k ↦ or_left (not (is_apart cube)) (list_any (has_all cube) more) k
          | inr k ↦ or_right (not (is_apart cube)) (list_any (has_all cube) more) (wider cube k)
        ]

-- what some rows do not meet fewer rows do not meet
pub fewer_met : (rows more : List Cube) (cover : NamedCover) → is_met (rows ++ more) cover ≡ false → (is_met rows cover ≡ false) × (is_met more cover ≡ false)
fewer_met rows more cover h = (
  none (is_met rows cover) (λ e. false≢true (sym h ∙ more_met rows (rows ++ more) (λ cube k. any_front (has_all cube) rows more k) cover e)),
  none (is_met more cover) (λ e. false≢true (sym h ∙ more_met more (rows ++ more) (λ cube k. any_back (has_all cube) rows more k) cover e)),
)
  where
    none : (b : Bool) → (b ≡ true → ⊥) → b ≡ false
    none true h = absurd (h refl)
    none false h = refl

-- ---- the rows of changed tables

pub set_aside : (rows one two all : List Cube) (old new : Table) → one ≡ rows ++ cubes_of old → two ≡ one ++ cubes_of new → all ≡ two → IsAside (is_met rows) (is_met all) old new
set_aside rows one two all old new one_is two_is all_is = λ cover h.
    (let second = fewer_met one (cubes_of new) cover (subst (λ (some : List Cube). is_met some cover ≡ false) (all_is ∙ two_is) h) in
    let first = fewer_met rows (cubes_of old) cover (subst (λ (some : List Cube). is_met some cover ≡ false) one_is second.0) in
    (first.0, unmet_stays cover old first.1, unmet_stays cover new second.1))

pub add_aside : (rows all : List Cube) (new : Table) → all ≡ rows ++ cubes_of new → IsAside (is_met rows) (is_met all) new new
add_aside rows all new all_is = λ cover h.
    (let both = fewer_met rows (cubes_of new) cover (subst (λ (some : List Cube). is_met some cover ≡ false) all_is h) in
    (both.0, unmet_stays cover new both.1, unmet_stays cover new both.1))
