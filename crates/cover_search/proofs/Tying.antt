-- Ties as constraints, and the questions of an oracle as constraints.
use Rattle.std.proofs.Common.{◌≡◌, ℕ, ◌<◌, ◌+◌, zero, suc, Bool, true, false, not, ◌&&◌, Option, Some, None, List, [], ◌∷◌, ◌++◌, length, get_or, take, map, refl, sym, ap, ◌∙◌, append_assoc, arith}
use Rattle.std.proofs.lemmas.List.{take_more, map_push}
use Rattle.std.specs.List.{list_all, AllByRecursion}
use Rattle.sis_base.specs.Rows.{agrees, matches, some_matches, phase_value, value_by_phase, HasWidth}
use Rattle.cover_min.specs.Points.{has_point, has_own_point}
use Rattle.cover_search.specs.Ties.{NodeConstraint, AreWide, keeps, keeps_all}
use Rattle.cover_search.specs.Searches.{Constraint, AllWide, constraint_of, satisfies, satisfies_all, meeting_rows}
use Rattle.cover_search.proofs.Satisfying.{meeting_same, meeting_wide}
use Rattle.cover_search.proofs.Halves.{has_point_same}

-- what holds of each element holds of one that was read
pub holds_at : {X : Type 0} (P : X → Type 0) (xs : List X) (i : ℕ) (x : X) → AllByRecursion P xs → i < length xs → x ≡ get_or xs i x → P x
holds_at P [] i x h lt e = absurd (omega arith)
holds_at P (first ∷ xs) zero x h lt e = rw e h.0
holds_at P (first ∷ xs) (suc i) x h lt e = holds_at P xs i x h.1 (omega arith) e

-- one tie more
taken_next : {X : Type 0} (f : X → NodeConstraint) (xs : List X) (i : ℕ) (x : X) → i < length xs → x ≡ get_or xs i x → map f (take (i + 1) xs) ≡ map f (take i xs) ++ f x ∷ []
taken_next f xs i x lt e = ap (map f) (take_more xs i x lt) ∙ map_push f (take i xs) (get_or xs i x) ∙ ap (λ y. map f (take i xs) ++ f y ∷ []) (sym e)

pub constraints_next : {X : Type 0} (f : X → NodeConstraint) (given : List (Option Bool)) (xs : List X) (i : ℕ) (x : X) (start constraints after : List Constraint) (constraint : Constraint) → i < length xs → x ≡ get_or xs i x → constraint ≡ constraint_of given (f x) → after ≡ constraints ++ constraint ∷ []
    → constraints ≡ start ++ map (constraint_of given) (map f (take i xs)) → after ≡ start ++ map (constraint_of given) (map f (take (i + 1) xs))
constraints_next f given xs i x start constraints after constraint lt e a k h =
    let more : map (constraint_of given) (map f (take (i + 1) xs)) ≡ map (constraint_of given) (map f (take i xs)) ++ constraint_of given (f x) ∷ [] = ap (map (constraint_of given)) (taken_next f xs i x lt e) ∙ map_push (constraint_of given) (map f (take i xs)) (f x) in
    k ∙ rw (h, a, more) (append_assoc start (map (constraint_of given) (map f (take i xs))) (constraint_of given (f x) ∷ []))

wide_more : (width : ℕ) (ties : List NodeConstraint) (tie : NodeConstraint) → AreWide width ties → HasWidth width tie.rows → AreWide width (ties ++ tie ∷ [])
wide_more width [] tie h w = (w, tt)
wide_more width (first ∷ ties) tie h w = (h.0, wide_more width ties tie h.1 w)

pub wide_next : {X : Type 0} (f : X → NodeConstraint) (width : ℕ) (xs : List X) (i : ℕ) (x : X) → i < length xs → x ≡ get_or xs i x → HasWidth width (f x).rows → AreWide width (map f (take i xs)) → AreWide width (map f (take (i + 1) xs))
wide_next f width xs i x lt e w h = rw (taken_next f xs i x lt e) (wide_more width (map f (take i xs)) (f x) h w)

-- a tie is kept where its constraint is satisfied
turned : (phase value bit : Bool) → agrees (Some (phase_value phase bit)) value ≡ agrees (Some (phase_value phase value)) bit
turned true true true = refl
turned true true false = refl
turned true false true = refl
turned true false false = refl
turned false true true = refl
turned false true false = refl
turned false false true = refl
turned false false false = refl

kept_satisfied : (given : List (Option Bool)) (tie : NodeConstraint) (point : List Bool) → HasWidth (length given) tie.rows → length point ≡ length given → matches given point ≡ true → satisfies point (constraint_of given tie) ≡ keeps point tie
unfolding value_by_phase
kept_satisfied given tie point w d m =
    ap (agrees (Some (phase_value tie.phase (get_or point tie.place false)))) (meeting_same given tie.rows point w d m) ∙ turned tie.phase (some_matches tie.rows point) (get_or point tie.place false)

all_kept : (given : List (Option Bool)) (ties : List NodeConstraint) (point : List Bool) → AreWide (length given) ties → length point ≡ length given → matches given point ≡ true → list_all (satisfies point) (map (constraint_of given) ties) ≡ keeps_all ties point
all_kept given [] point w d m = refl
all_kept given (tie ∷ ties) point w d m =
    let rest : list_all (satisfies point) (map (constraint_of given) ties) ≡ list_all (keeps point) ties = all_kept given ties point w.1 d m in
    let first : satisfies point (constraint_of given tie) ≡ keeps point tie = kept_satisfied given tie point w.0 d m in
    ap (λ (x : Bool). x && list_all (satisfies point) (map (constraint_of given) ties)) first ∙ ap (λ (x : Bool). keeps point tie && x) rest

ties_wide : (width : ℕ) (given : List (Option Bool)) (ties : List NodeConstraint) → AreWide width ties → AllWide width (map (constraint_of given) ties)
unfolding AllWide
ties_wide width given [] h = tt
ties_wide width given (tie ∷ ties) h = (meeting_wide width given tie.rows h.0, ties_wide width given ties h.1)

-- the test whether rows give 0 where all ties are kept
pub one_before : (none before after slice rest : List Constraint) (constraint first : Constraint) → none ≡ [] → before ≡ none ++ constraint ∷ [] → after ≡ before ++ rest → slice ≡ after → constraint ≡ first → slice ≡ (first ∷ []) ++ rest
one_before none before after slice rest constraint first n b a s e = rw (s, a, b, n, e) refl

pub two_before : (none half before after slice rest : List Constraint) (constraint other first second : Constraint) → none ≡ [] → half ≡ none ++ constraint ∷ [] → before ≡ half ++ other ∷ [] → after ≡ before ++ rest → slice ≡ after → constraint ≡ first → other ≡ second
    → slice ≡ (first ∷ second ∷ []) ++ rest
two_before none half before after slice rest constraint other first second n h b a s e f = rw (s, a, b, h, n, e, f) refl

pub off_wide : (given : List (Option Bool)) (rows : List (List (Option Bool))) (ties : List NodeConstraint) (constraints : List Constraint) → constraints ≡ (record { tie = None; bit = false; rows = meeting_rows given rows } ∷ []) ++ map (constraint_of given) ties
    → HasWidth (length given) rows → AreWide (length given) ties → AllWide (length given) constraints
unfolding AllWide
off_wide given rows ties constraints e w h = rw e (meeting_wide (length given) given rows w, ties_wide (length given) given ties h)

pub off_answer : (given : List (Option Bool)) (rows : List (List (Option Bool))) (ties : List NodeConstraint) (constraints : List Constraint) (answer : Bool) → constraints ≡ (record { tie = None; bit = false; rows = meeting_rows given rows } ∷ []) ++ map (constraint_of given) ties
    → HasWidth (length given) rows → AreWide (length given) ties → answer ≡ has_point (satisfies_all constraints) given
    → answer ≡ has_point (λ point. not (some_matches rows point) && keeps_all ties point) given
unfolding satisfies_all
off_answer given rows ties constraints answer e w h a =
    a ∙ has_point_same given (satisfies_all constraints) (λ point. not (some_matches rows point) && keeps_all ties point)
    (record {
      same = λ point d m.
          rw (e, meeting_same given rows point w d m, all_kept given ties point h d m) refl;
    })

-- the test whether rows give 1 where others give 0 and all ties are kept
bits_in_order : (m k o : Bool) → (not o && (m && k)) ≡ ((m && k) && not o)
bits_in_order true true true = refl
bits_in_order true true false = refl
bits_in_order true false true = refl
bits_in_order true false false = refl
bits_in_order false true true = refl
bits_in_order false true false = refl
bits_in_order false false true = refl
bits_in_order false false false = refl

pub on_wide : (given : List (Option Bool)) (rows others : List (List (Option Bool))) (ties : List NodeConstraint) (constraints : List Constraint)
    → constraints ≡ (record { tie = None; bit = false; rows = meeting_rows given others } ∷ record { tie = None; bit = true; rows = meeting_rows given rows } ∷ []) ++ map (constraint_of given) ties
    → HasWidth (length given) rows → HasWidth (length given) others → AreWide (length given) ties → AllWide (length given) constraints
unfolding AllWide
on_wide given rows others ties constraints e w o h = rw e (meeting_wide (length given) given others o, (meeting_wide (length given) given rows w, ties_wide (length given) given ties h))

pub on_answer : (given : List (Option Bool)) (rows others : List (List (Option Bool))) (ties : List NodeConstraint) (constraints : List Constraint) (answer : Bool)
    → constraints ≡ (record { tie = None; bit = false; rows = meeting_rows given others } ∷ record { tie = None; bit = true; rows = meeting_rows given rows } ∷ []) ++ map (constraint_of given) ties
    → HasWidth (length given) rows → HasWidth (length given) others → AreWide (length given) ties → answer ≡ has_point (satisfies_all constraints) given
    → answer ≡ has_own_point (λ point. some_matches rows point && keeps_all ties point) given others
unfolding satisfies_all
on_answer given rows others ties constraints answer e w o h a =
    a ∙ has_point_same given (satisfies_all constraints) (λ point. (some_matches rows point && keeps_all ties point) && not (some_matches others point))
    (record {
      same = λ point d m.
          rw (e, meeting_same given others point o d m, meeting_same given rows point w d m, all_kept given ties point h d m)
          (bits_in_order (some_matches rows point) (keeps_all ties point) (some_matches others point));
    })
