-- The answers of the search at each of its ends.
use Rattle.std.proofs.Common.{if◌then◌else◌, is_none, ◌≡◌, ℕ, ◌<◌, zero, suc, Bool, true, false, not, ◌||◌, Option, Some, None, List, [], ◌∷◌, length, get_or, set, refl, sym, ap, ◌∙◌, subst, arith}
use Rattle.std.proofs.lemmas.List.{length-set}
use Rattle.std.specs.List.{list_all}
use Rattle.std.specs.Option.{MatchOption}
use Rattle.sis_base.specs.Rows.{some_matches, phase_value, HasWidth}
use Rattle.cube_cover.specs.Literals.{no_dash, some_contains}
use Rattle.cube_cover.proofs.Products.{point_of, length-point_of, matches-point_of}
use Rattle.cube_cover.proofs.Splits.{full_answer, dash_count, fewer_dashes}
use Rattle.cover_min.specs.Points.{has_point}
use Rattle.cover_search.specs.Searches.{Constraint, AllWide, IsLeft, IsPart, filled_at, SameWithin, satisfies, satisfies_all, wanted, wanted_at, is_satisfied_at, is_positive}
use Rattle.cover_search.proofs.Satisfying.{contained_matches}
use Rattle.cover_search.proofs.Halves.{has_point_same, has_point_none, has_point_at, has_point_full, has_point_halves, one_point}

pub none_of : {X : Type 0} (found : Option X) (P : Type 0) (Q : X → Type 0) → found ≡ None → MatchOption found P Q → P
none_of None P Q e h = h
none_of (Some x) P Q e h = cc

pub some_of : {X : Type 0} (found : Option X) (x : X) (P : Type 0) (Q : X → Type 0) → found ≡ Some x → MatchOption found P Q → Q x
some_of None x P Q e h = cc
some_of (Some y) x P Q e h =
    let same : y ≡ x = cc in
    subst Q same h

pub hopeless_answer : (given : List (Option Bool)) (constraints : List Constraint) → SameWithin given (satisfies_all constraints) (λ point. false) → false ≡ has_point (satisfies_all constraints) given
hopeless_answer given constraints h = sym (has_point_none given (satisfies_all constraints) h)

-- the same points are asked for of what is left
pub left_same : (given : List (Option Bool)) (constraints left : List Constraint) → IsLeft given constraints left → has_point (satisfies_all left) given ≡ has_point (satisfies_all constraints) given
left_same given constraints left h = has_point_same given (satisfies_all left) (satisfies_all constraints) h.same

pub empty_answer : (given : List (Option Bool)) (constraints left : List Constraint) → IsLeft given constraints left → left ≡ [] → true ≡ has_point (satisfies_all constraints) given
unfolding satisfies_all
empty_answer given constraints left h e =
    let yes : satisfies_all left (point_of given) ≡ true = ap (λ (x : List Constraint). satisfies_all x (point_of given)) e in
    sym (has_point_at given (satisfies_all left) yes) ∙ left_same given constraints left h

-- a row without a dash
positive_at : (given : List (Option Bool)) (place : ℕ) → get_or (point_of given) place false ≡ is_positive (get_or given place None)
unfolding point_of
positive_at [] place = refl
positive_at (None ∷ ls) zero = refl
positive_at (Some bit ∷ ls) zero = refl
positive_at (l ∷ ls) (suc i) = positive_at ls i

wanted_same : (given : List (Option Bool)) (tie : Option ℕ) (bit : Bool) → wanted_at given tie bit ≡ wanted tie bit (point_of given)
wanted_same given None bit = refl
wanted_same given (Some place) bit = ap (phase_value bit) (sym (positive_at given place))

contains_same : (given : List (Option Bool)) (rows : List (List (Option Bool))) → HasWidth (length given) rows → no_dash given ≡ true → some_contains given rows ≡ some_matches rows (point_of given)
contains_same given rows w n = cases (some_contains given rows) (some_matches rows (point_of given)) refl refl
  where
    cases : (s t : Bool) → some_contains given rows ≡ s → some_matches rows (point_of given) ≡ t → some_contains given rows ≡ some_matches rows (point_of given)
    cases true t h k = h ∙ sym (contained_matches given rows (point_of given) w (length-point_of given) h (matches-point_of given))
    cases false false h k = h ∙ sym k
    cases false true h k = (full_answer given rows (some_contains given rows) w n refl).1 (λ p d m. ap (some_matches rows) (one_point given p n d m) ∙ k) ∙ sym k

all_satisfied_at : (given : List (Option Bool)) (constraints : List Constraint) → AllWide (length given) constraints → no_dash given ≡ true → list_all (is_satisfied_at given) constraints ≡ satisfies_all constraints (point_of given)
unfolding satisfies_all AllWide
all_satisfied_at given [] w n = refl
all_satisfied_at given (constraint ∷ constraints) w n =
    let rest : list_all (is_satisfied_at given) constraints ≡ list_all (satisfies (point_of given)) constraints = all_satisfied_at given constraints w.1 n in
    rw (wanted_same given constraint.tie constraint.bit, contains_same given constraint.rows w.0 n, rest) refl

pub full_answer_of : (given : List (Option Bool)) (constraints left : List Constraint) (answer : Bool) → IsLeft given constraints left → no_dash given ≡ true → answer ≡ list_all (is_satisfied_at given) left → answer ≡ has_point (satisfies_all constraints) given
full_answer_of given constraints left answer h n e =
    e ∙ all_satisfied_at given left h.wide n ∙ sym (has_point_full given (satisfies_all left) n) ∙ left_same given constraints left h

-- the halves
pub first_answer : (given first : List (Option Bool)) (constraints left : List Constraint) (place : ℕ) (bit answer : Bool) → IsLeft given constraints left → place < length given → get_or given place None ≡ None → first ≡ set given place (Some bit)
    → answer ≡ has_point (satisfies_all left) first → answer ≡ true → answer ≡ has_point (satisfies_all constraints) given
first_answer given first constraints left place bit answer h lt d e a t =
    let half : has_point (satisfies_all left) (set given place (Some bit)) ≡ true = ap (has_point (satisfies_all left)) (sym e) ∙ sym a ∙ t in
    t ∙ sym (ap (λ (x : Bool). x || has_point (satisfies_all left) (set given place (Some (not bit)))) half) ∙ sym (has_point_halves given (satisfies_all left) place bit lt d) ∙ left_same given constraints left h

pub second_answer : (given first second : List (Option Bool)) (constraints left : List Constraint) (place : ℕ) (bit before answer : Bool) → IsLeft given constraints left → place < length given → get_or given place None ≡ None → first ≡ set given place (Some bit)
    → second ≡ set given place (Some (not bit)) → before ≡ has_point (satisfies_all left) first → before ≡ false → answer ≡ has_point (satisfies_all left) second → answer ≡ has_point (satisfies_all constraints) given
second_answer given first second constraints left place bit before answer h lt d e f b z a =
    let half : has_point (satisfies_all left) (set given place (Some bit)) ≡ false = ap (has_point (satisfies_all left)) (sym e) ∙ sym b ∙ z in
    let other : answer ≡ has_point (satisfies_all left) (set given place (Some (not bit))) = a ∙ ap (has_point (satisfies_all left)) f in
    other ∙ sym (ap (λ (x : Bool). x || has_point (satisfies_all left) (set given place (Some (not bit)))) half) ∙ sym (has_point_halves given (satisfies_all left) place bit lt d) ∙ left_same given constraints left h

-- a half has fewer dashes, and the same width
pub half_smaller : (given half : List (Option Bool)) (place : ℕ) (bit : Bool) → place < length given → get_or given place None ≡ None → half ≡ set given place (Some bit) → dash_count half < dash_count given
half_smaller given half place bit lt d e = rw e (omega (arith, fewer_dashes given place bit lt d))

pub half_wide : (given half : List (Option Bool)) (constraints left : List Constraint) (place : ℕ) (bit : Bool) → IsLeft given constraints left → half ≡ set given place (Some bit) → AllWide (length half) left
half_wide given half constraints left place bit h e = rw (e, length-set given place (Some bit)) h.wide

-- a part of the given row
pub part_whole : (given row : List (Option Bool)) → row ≡ given → IsPart given row
part_whole given row e = record { width = ap length e; points = λ test h. ap (has_point test) (sym e) ∙ h }

dash_inside : (row : List (Option Bool)) (place : ℕ) (bit : Bool) → get_or row place (Some bit) ≡ None → place < length row
dash_inside [] place bit e = cc
dash_inside (l ∷ ls) zero bit e = omega arith
dash_inside (l ∷ ls) (suc i) bit e = omega (arith, dash_inside ls i bit e)

dash_read : (row : List (Option Bool)) (place : ℕ) (bit : Bool) → get_or row place (Some bit) ≡ None → get_or row place None ≡ None
dash_read [] place bit e = refl
dash_read (l ∷ ls) zero bit e = e
dash_read (l ∷ ls) (suc i) bit e = dash_read ls i bit e

filled_part : (row : List (Option Bool)) (place : ℕ) (bit : Bool) → IsPart row (filled_at row place bit)
filled_part row place bit = cases (get_or row place (Some bit)) refl
  where
    cases : (literal : Option Bool) → get_or row place (Some bit) ≡ literal → IsPart row (if is_none literal then set row place (Some bit) else row)
    cases (Some other) e = record { width = refl; points = λ test h. h }
    cases None e = record {
      width = length-set row place (Some bit);
      points = λ test h.
          has_point_halves row test place bit (dash_inside row place bit e) (dash_read row place bit e) ∙ ap (λ (x : Bool). x || has_point test (set row place (Some (not bit)))) h;
    }

pub part_filled : (given row after : List (Option Bool)) (place : ℕ) (bit : Bool) → IsPart given row → after ≡ filled_at row place bit → IsPart given after
part_filled given row after place bit h e =
    let k : IsPart row (filled_at row place bit) = filled_part row place bit in
    rw e (record { width = k.width ∙ h.width; points = λ test t. h.points test (k.points test t) })

pub satisfied_at_point : (row : List (Option Bool)) (constraints : List Constraint) (answer : Bool) → AllWide (length row) constraints → no_dash row ≡ true → answer ≡ list_all (is_satisfied_at row) constraints → answer ≡ true → has_point (satisfies_all constraints) row ≡ true
satisfied_at_point row constraints answer w n e t = has_point_at row (satisfies_all constraints) (sym (all_satisfied_at row constraints w n) ∙ sym e ∙ t)

pub likely_answer : (given : List (Option Bool)) (constraints left : List Constraint) (answer : Bool) → IsLeft given constraints left → (answer ≡ true → has_point (satisfies_all left) given ≡ true) → answer ≡ true → answer ≡ has_point (satisfies_all constraints) given
likely_answer given constraints left answer h f t = t ∙ sym (f t) ∙ left_same given constraints left h
