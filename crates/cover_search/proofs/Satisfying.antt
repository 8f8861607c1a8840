-- What is left of constraints within a given row.
use Rattle.std.proofs.Common.{◌≡◌, ℕ, ◌<◌, ◌+◌, zero, suc, Bool, true, false, ◌&&◌, ◌||◌, if◌then◌else◌, Option, Some, None, List, [], ◌∷◌, ◌++◌, length, get_or, take, refl, sym, ap, ◌∙◌, arith, IsTrue, ◌↔◌}
use Rattle.std.specs.List.{list_all}
use Rattle.std.proofs.Math.Bool.{and-true}
use Rattle.std.proofs.lemmas.List.{take_more}
use Rattle.std.proofs.lemmas.Bool.{or_right}
use Rattle.sis_base.specs.Rows.{agrees, matches, some_matches, phase_value, HasWidth}
use Rattle.cube_cover.specs.Covers.{Intersects, agreeing_rows}
use Rattle.cube_cover.specs.Literals.{rows_intersect, row_contains, some_contains}
use Rattle.cube_cover.proofs.Points.{and_left, and_right}
use Rattle.cube_cover.proofs.Products.{intersects_from_test, test_from_intersects, contains_at_point}
use Rattle.cover_search.specs.Searches.{Constraint, AllWide, IsLeft, SameWithin, satisfies, satisfies_all, wanted, meeting_rows, narrowed, narrowed_rows, known_by_phase, wanted_within, value_within, verdict_of, verdict_within, with_open}

pub intersects_by_literals : (a b : List (Option Bool)) → length a ≡ length b → (r : Bool) → IsTrue r ↔ Intersects a b → r ≡ rows_intersect a b
intersects_by_literals a b e r h = cases r (rows_intersect a b) refl refl
  where
    cases : (s t : Bool) → r ≡ s → rows_intersect a b ≡ t → r ≡ rows_intersect a b
    cases true true x y = x ∙ sym y
    cases false false x y = x ∙ sym y
    cases true false x y = x ∙ sym (test_from_intersects a b e (h.0 x))
    cases false true x y = h.1 (intersects_from_test a b e y) ∙ sym y

-- a literal agrees with its own bit alone
pub same_bit : (b c : Bool) → agrees (Some b) c ≡ true → c ≡ b
same_bit true c h = h
same_bit false true h = cc
same_bit false false h = refl

-- the bit of a row's point in a column agrees with the literal there
pub matches_at : (row : List (Option Bool)) (point : List Bool) (place : ℕ) → length point ≡ length row → matches row point ≡ true → agrees (get_or row place None) (get_or point place false) ≡ true
unfolding matches
matches_at [] point place e m = refl
matches_at (l ∷ ls) [] place e m = absurd (omega arith)
matches_at (l ∷ ls) (b ∷ bs) zero e m = and_left _ _ m
matches_at (l ∷ ls) (b ∷ bs) (suc i) e m = matches_at ls bs i (omega arith) (and_right (agrees l b) _ m)

-- a row that does not agree with the given row in a column has no point of it
no_match : (given row : List (Option Bool)) (point : List Bool) (place : ℕ) (bit : Bool) → length row ≡ length given → length point ≡ length given → matches given point ≡ true → get_or given place None ≡ Some bit
    → agrees (get_or row place None) bit ≡ false → matches row point ≡ false
no_match given row point place bit w d m e a = cases (matches row point) refl
  where
    here : get_or point place false ≡ bit
    here = same_bit bit (get_or point place false) (ap (λ (x : Option Bool). agrees x (get_or point place false)) (sym e) ∙ matches_at given point place d m)

    cases : (t : Bool) → matches row point ≡ t → matches row point ≡ false
    cases false h = h
    cases true h =
        let k : agrees (get_or row place None) bit ≡ true = ap (agrees (get_or row place None)) (sym here) ∙ matches_at row point place (d ∙ sym w) h in
        cc

agreeing_same : (given : List (Option Bool)) (rows : List (List (Option Bool))) (point : List Bool) (place : ℕ) (bit : Bool) → HasWidth (length given) rows → length point ≡ length given → matches given point ≡ true → get_or given place None ≡ Some bit
    → some_matches (agreeing_rows place bit rows) point ≡ some_matches rows point
unfolding some_matches agreeing_rows HasWidth
agreeing_same given [] point place bit w d m e = refl
agreeing_same given (row ∷ rows) point place bit w d m e = cases (agrees (get_or row place None) bit) refl (agreeing_same given rows point place bit w.1 d m e)
  where
    cases : (t : Bool) → agrees (get_or row place None) bit ≡ t → some_matches (agreeing_rows place bit rows) point ≡ some_matches rows point
        → some_matches (if t then row ∷ agreeing_rows place bit rows else agreeing_rows place bit rows) point ≡ (matches row point || some_matches rows point)
    cases true a rest = ap (λ (x : Bool). matches row point || x) rest
    cases false a rest =
        let no : matches row point ≡ false = no_match given row point place bit w.0 d m e a in
        rw no rest

agreeing_wide : (width : ℕ) (rows : List (List (Option Bool))) (place : ℕ) (bit : Bool) → HasWidth width rows → HasWidth width (agreeing_rows place bit rows)
unfolding agreeing_rows HasWidth
agreeing_wide width [] place bit h = tt
agreeing_wide width (row ∷ rows) place bit h = cases (agrees (get_or row place None) bit) (agreeing_wide width rows place bit h.1)
  where
    cases : (t : Bool) → HasWidth width (agreeing_rows place bit rows) → HasWidth width (if t then row ∷ agreeing_rows place bit rows else agreeing_rows place bit rows)
    cases true rest = (h.0, rest)
    cases false rest = rest

narrowed_rows_wide : (width : ℕ) (rows : List (List (Option Bool))) (place : ℕ) (literal : Option Bool) → HasWidth width rows → HasWidth width (narrowed_rows literal place rows)
narrowed_rows_wide width rows place None h = h
narrowed_rows_wide width rows place (Some bit) h = agreeing_wide width rows place bit h

narrowed_rows_same : (given : List (Option Bool)) (rows : List (List (Option Bool))) (point : List Bool) (place : ℕ) (literal : Option Bool) → HasWidth (length given) rows → length point ≡ length given → matches given point ≡ true → get_or given place None ≡ literal
    → some_matches (narrowed_rows literal place rows) point ≡ some_matches rows point
narrowed_rows_same given rows point place None w d m e = refl
narrowed_rows_same given rows point place (Some bit) w d m e = agreeing_same given rows point place bit w d m e

pub narrowed_same : (given : List (Option Bool)) (place : ℕ) (constraint : Constraint) (point : List Bool) → HasWidth (length given) constraint.rows → length point ≡ length given → matches given point ≡ true → satisfies point (narrowed given place constraint) ≡ satisfies point constraint
narrowed_same given place constraint point w d m = ap (agrees (Some (wanted constraint.tie constraint.bit point))) (narrowed_rows_same given constraint.rows point place (get_or given place None) w d m refl)

-- the rows that meet the given one
pub meeting_same : (given : List (Option Bool)) (rows : List (List (Option Bool))) (point : List Bool) → HasWidth (length given) rows → length point ≡ length given → matches given point ≡ true → some_matches (meeting_rows given rows) point ≡ some_matches rows point
unfolding some_matches meeting_rows HasWidth
meeting_same given [] point w d m = refl
meeting_same given (row ∷ rows) point w d m = cases (rows_intersect row given) refl (meeting_same given rows point w.1 d m)
  where
    cases : (t : Bool) → rows_intersect row given ≡ t → some_matches (meeting_rows given rows) point ≡ some_matches rows point
        → some_matches (if t then row ∷ meeting_rows given rows else meeting_rows given rows) point ≡ (matches row point || some_matches rows point)
    cases true a rest = ap (λ (x : Bool). matches row point || x) rest
    cases false a rest = by_match (matches row point) refl
      where
        by_match : (t : Bool) → matches row point ≡ t → some_matches (meeting_rows given rows) point ≡ (t || some_matches rows point)
        by_match false e = rest
        by_match true e =
            let k : rows_intersect row given ≡ true = test_from_intersects row given w.0 (point, d ∙ sym w.0, e, m) in
            cc

pub meeting_wide : (width : ℕ) (given : List (Option Bool)) (rows : List (List (Option Bool))) → HasWidth width rows → HasWidth width (meeting_rows given rows)
unfolding meeting_rows HasWidth
meeting_wide width given [] h = tt
meeting_wide width given (row ∷ rows) h = cases (rows_intersect row given) (meeting_wide width given rows h.1)
  where
    cases : (t : Bool) → HasWidth width (meeting_rows given rows) → HasWidth width (if t then row ∷ meeting_rows given rows else meeting_rows given rows)
    cases true rest = (h.0, rest)
    cases false rest = rest

pub contained_matches : (given : List (Option Bool)) (rows : List (List (Option Bool))) (point : List Bool) → HasWidth (length given) rows → length point ≡ length given → some_contains given rows ≡ true → matches given point ≡ true → some_matches rows point ≡ true
unfolding some_matches some_contains HasWidth
contained_matches given [] point w d h m = cc
contained_matches given (row ∷ rows) point w d h m = cases (row_contains row given) refl h (λ k. contained_matches given rows point w.1 d k m)
  where
    cases : (t : Bool) → row_contains row given ≡ t → (t || some_contains given rows) ≡ true → (some_contains given rows ≡ true → some_matches rows point ≡ true) → (matches row point || some_matches rows point) ≡ true
    cases true e h rest = rw (contains_at_point row given point (d ∙ sym w.0) w.0 e m) refl
    cases false e h rest = or_right (matches row point) _ (rest h)

value_is : (given : List (Option Bool)) (rows : List (List (Option Bool))) (point : List Bool) (bit : Bool) → HasWidth (length given) rows → length point ≡ length given → matches given point ≡ true → value_within given rows ≡ Some bit → some_matches rows point ≡ bit
unfolding some_matches
value_is given [] point bit w d m e = cc
value_is given (row ∷ rows) point bit w d m e = cases (some_contains given (row ∷ rows)) refl e
  where
    cases : (t : Bool) → some_contains given (row ∷ rows) ≡ t → (if t then Some true else None) ≡ Some bit → some_matches (row ∷ rows) point ≡ bit
    cases true h k = contained_matches given (row ∷ rows) point w d h m ∙ cc
    cases false h k = cc

read_past : (given : List (Option Bool)) (point : List Bool) (place : ℕ) (bit : Bool) → length point ≡ length given → matches given point ≡ true → get_or given place (Some false) ≡ Some bit → get_or point place false ≡ bit
unfolding matches
read_past [] [] place bit d m e = cc
read_past [] (b ∷ bs) place bit d m e = absurd (omega arith)
read_past (l ∷ ls) [] place bit d m e = absurd (omega arith)
read_past (l ∷ ls) (b ∷ bs) zero bit d m e = same_bit bit b (ap (λ (x : Option Bool). agrees x b) (sym e) ∙ and_left _ _ m)
read_past (l ∷ ls) (b ∷ bs) (suc i) bit d m e = read_past ls bs i bit (omega arith) (and_right (agrees l b) _ m) e

wanted_is : (given : List (Option Bool)) (tie : Option ℕ) (phase : Bool) (point : List Bool) (bit : Bool) → length point ≡ length given → matches given point ≡ true → wanted_within given tie phase ≡ Some bit → wanted tie phase point ≡ bit
wanted_is given None phase point bit d m e = cc
wanted_is given (Some place) phase point bit d m e = cases (get_or given place (Some false)) refl e
  where
    cases : (literal : Option Bool) → get_or given place (Some false) ≡ literal → known_by_phase phase literal ≡ Some bit → phase_value phase (get_or point place false) ≡ bit
    cases None h k = cc
    cases (Some other) h k =
        let there : get_or point place false ≡ other = read_past given point place other d m h in
        ap (phase_value phase) there ∙ cc

pub verdict_is : (given : List (Option Bool)) (constraint : Constraint) (point : List Bool) (met : Bool) → HasWidth (length given) constraint.rows → length point ≡ length given → matches given point ≡ true → verdict_within given constraint ≡ Some met → satisfies point constraint ≡ met
unfolding verdict_within
verdict_is given constraint point met w d m e = cases (wanted_within given constraint.tie constraint.bit) (value_within given constraint.rows) refl refl e
  where
    cases : (bit value : Option Bool) → wanted_within given constraint.tie constraint.bit ≡ bit → value_within given constraint.rows ≡ value → verdict_of bit value ≡ Some met → satisfies point constraint ≡ met
    cases None value h k v = cc
    cases (Some bit) None h k v = cc
    cases (Some bit) (Some value) h k v =
        let first : wanted constraint.tie constraint.bit point ≡ bit = wanted_is given constraint.tie constraint.bit point bit d m h in
        let second : some_matches constraint.rows point ≡ value = value_is given constraint.rows point value w d m k in
        rw (first, second) cc

-- lists of constraints
pub wide_at : (width : ℕ) (constraints : List Constraint) (i : ℕ) (constraint : Constraint) → AllWide width constraints → i < length constraints → constraint ≡ get_or constraints i constraint → HasWidth width constraint.rows
unfolding AllWide
wide_at width [] i constraint h lt e = absurd (omega arith)
wide_at width (first ∷ constraints) zero constraint h lt e = rw e h.0
wide_at width (first ∷ constraints) (suc i) constraint h lt e = wide_at width constraints i constraint h.1 (omega arith) e

pub narrowed_wide : (given : List (Option Bool)) (place : ℕ) (constraints : List Constraint) (i : ℕ) (constraint made : Constraint) → AllWide (length given) constraints → i < length constraints → constraint ≡ get_or constraints i constraint → made ≡ narrowed given place constraint → HasWidth (length given) made.rows
narrowed_wide given place constraints i constraint made h lt e k = rw k (narrowed_rows_wide (length given) constraint.rows place (get_or given place None) (wide_at (length given) constraints i constraint h lt e))

wide_more : (width : ℕ) (constraints : List Constraint) (constraint : Constraint) → AllWide width constraints → HasWidth width constraint.rows → AllWide width (constraints ++ constraint ∷ [])
unfolding AllWide
wide_more width [] constraint h w = (w, tt)
wide_more width (first ∷ constraints) constraint h w = (h.0, wide_more width constraints constraint h.1 w)

satisfies_more : (constraints : List Constraint) (constraint : Constraint) (point : List Bool) → satisfies_all (constraints ++ constraint ∷ []) point ≡ (satisfies_all constraints point && satisfies point constraint)
unfolding satisfies_all
satisfies_more [] constraint point = and-true (satisfies point constraint)
satisfies_more (first ∷ constraints) constraint point = cases (satisfies point first) (satisfies_more constraints constraint point)
  where
    cases : (t : Bool) → list_all (satisfies point) (constraints ++ constraint ∷ []) ≡ (list_all (satisfies point) constraints && satisfies point constraint) → (t && list_all (satisfies point) (constraints ++ constraint ∷ [])) ≡ ((t && list_all (satisfies point) constraints) && satisfies point constraint)
    cases true h = h
    cases false h = refl

pub left_none : (given : List (Option Bool)) → IsLeft given [] []
unfolding AllWide
left_none given = record { wide = tt; same = record { same = λ point d m. refl } }

-- the next constraint, narrowed, is kept if nothing is known of it, and dropped if it is satisfied
left_more : (given : List (Option Bool)) (place : ℕ) (constraints left : List Constraint) (constraint : Constraint) (verdict : Option Bool) → HasWidth (length given) constraint.rows → verdict ≡ verdict_within given (narrowed given place constraint) → (verdict ≡ Some false → ⊥)
    → IsLeft given constraints left → IsLeft given (constraints ++ constraint ∷ []) (with_open left (narrowed given place constraint) verdict)
left_more given place constraints left constraint None w e possible h = record {
  wide = wide_more (length given) left (narrowed given place constraint) h.wide (narrowed_rows_wide (length given) constraint.rows place (get_or given place None) w);
  same = record {
    same = λ point d m.
        satisfies_more left (narrowed given place constraint) point ∙ rw (h.same.same point d m, narrowed_same given place constraint point w d m) (sym (satisfies_more constraints constraint point));
  };
}
left_more given place constraints left constraint (Some false) w e possible h = absurd (possible refl)
left_more given place constraints left constraint (Some true) w e possible h = record {
  wide = h.wide;
  same = record {
    same = λ point d m.
        let met : satisfies point constraint ≡ true = sym (narrowed_same given place constraint point w d m) ∙ verdict_is given (narrowed given place constraint) point true (narrowed_rows_wide (length given) constraint.rows place (get_or given place None) w) d m (sym e) in
        h.same.same point d m ∙ sym (satisfies_more constraints constraint point ∙ rw met (and-true (satisfies_all constraints point)));
  };
}

pub left_next : (given : List (Option Bool)) (place : ℕ) (constraints left after : List Constraint) (i : ℕ) (constraint made : Constraint) (verdict : Option Bool) → AllWide (length given) constraints → i < length constraints → constraint ≡ get_or constraints i constraint → made ≡ narrowed given place constraint
    → verdict ≡ verdict_within given made → (verdict ≡ Some false → ⊥) → after ≡ with_open left made verdict → IsLeft given (take i constraints) left → IsLeft given (take (i + 1) constraints) after
left_next given place constraints left after i constraint made verdict h lt e k v possible f rest =
    let more : take (i + 1) constraints ≡ take i constraints ++ constraint ∷ [] = take_more constraints i constraint lt ∙ ap (λ (x : Constraint). take i constraints ++ x ∷ []) (sym e) in
    rw (more, f, k) (left_more given place (take i constraints) left constraint verdict (wide_at (length given) constraints i constraint h lt e) (v ∙ ap (verdict_within given) k) possible rest)

-- a constraint that is satisfied nowhere
none_satisfied : (constraints : List Constraint) (i : ℕ) (constraint : Constraint) (point : List Bool) → i < length constraints → constraint ≡ get_or constraints i constraint → satisfies point constraint ≡ false → satisfies_all constraints point ≡ false
unfolding satisfies_all
none_satisfied [] i constraint point lt e h = absurd (omega arith)
none_satisfied (first ∷ constraints) zero constraint point lt e h = rw (ap (satisfies point) (sym e) ∙ h) refl
none_satisfied (first ∷ constraints) (suc i) constraint point lt e h = cases (satisfies point first) (none_satisfied constraints i constraint point (omega arith) e h)
  where
    cases : (t : Bool) → list_all (satisfies point) constraints ≡ false → (t && list_all (satisfies point) constraints) ≡ false
    cases true k = k
    cases false k = refl

pub hopeless_same : (given : List (Option Bool)) (place : ℕ) (constraints : List Constraint) (i : ℕ) (constraint made : Constraint) → AllWide (length given) constraints → i < length constraints → constraint ≡ get_or constraints i constraint → made ≡ narrowed given place constraint → verdict_within given made ≡ Some false
    → SameWithin given (satisfies_all constraints) (λ point. false)
hopeless_same given place constraints i constraint made h lt e k v = record {
  same = λ point d m.
      let w : HasWidth (length given) constraint.rows = wide_at (length given) constraints i constraint h lt e in
      none_satisfied constraints i constraint point lt e
      (sym (narrowed_same given place constraint point w d m) ∙ verdict_is given (narrowed given place constraint) point false (narrowed_rows_wide (length given) constraint.rows place (get_or given place None) w) d m (ap (verdict_within given) (sym k) ∙ v));
}
