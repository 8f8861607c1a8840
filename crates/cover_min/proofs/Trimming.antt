-- The invariant while the rows of a cover are tested, with one held apart.
use Rattle.std.proofs.Common.{◌≡◌, ℕ, ◌<◌, ◌≤◌, ◌+◌, zero, suc, Bool, true, false, ◌||◌, Option}
use Rattle.std.proofs.Common.{Some, None, List, [], ◌∷◌, ◌++◌, length, get_or, set, take, drop, map}
use Rattle.std.proofs.Common.{option_map, refl, sym, ap, ◌∙◌, subst, ◌↔◌, arith}
use Rattle.std.proofs.lemmas.List.{take_at, drop_at, take_more_set, drop-set-lt, at_drop_more}
use Rattle.std.proofs.lemmas.List.{take-append-drop, length-set, length-append, length-take}
use Rattle.std.proofs.lemmas.List.{length-map, map-append, map-set, get_or-map}
use Rattle.std.proofs.Math.Seq.{take-length, drop-length}
use Rattle.std.specs.List.{take-map, drop-map}
use Rattle.sis_base.specs.Rows.{HasWidth}
use Rattle.cube_cover.specs.Covers.{Shape}
use Rattle.cover_min.specs.Points.{has_own_point}
use Rattle.cover_min.specs.Minimum.{Meaning, with_needed, needed_behind}
use Rattle.cover_min.specs.Refusals.{Refusals, SameRefusals, RefusesRow}
use Rattle.cover_min.specs.Trimming.{in_hand, Holds, IsTrimming}
use Rattle.cover_min.proofs.Refusals.{row_first, row_later, row_cases, no_row}

pub HasWidth-take : (w : ℕ) (rows : List (List (Option Bool))) (i : ℕ) → HasWidth w rows → HasWidth w (take i rows)
unfolding HasWidth
HasWidth-take w rows zero h = tt
HasWidth-take w [] (suc i) h = tt
HasWidth-take w (row ∷ rows) (suc i) h = (h.0, HasWidth-take w rows i h.1)

pub HasWidth-drop : (w : ℕ) (rows : List (List (Option Bool))) (i : ℕ) → HasWidth w rows → HasWidth w (drop i rows)
unfolding HasWidth
HasWidth-drop w rows zero h = h
HasWidth-drop w [] (suc i) h = tt
HasWidth-drop w (row ∷ rows) (suc i) h = HasWidth-drop w rows i h.1

pub HasWidth-set : (w : ℕ) (rows : List (List (Option Bool))) (i : ℕ) (row : List (Option Bool)) → HasWidth w rows → length row ≡ w → HasWidth w (set rows i row)
unfolding HasWidth
HasWidth-set w [] i row h e = tt
HasWidth-set w (first ∷ rows) zero row h e = (e, h.1)
HasWidth-set w (first ∷ rows) (suc i) row h e = (h.0, HasWidth-set w rows i row h.1 e)

-- the rows of a vector from which one was removed, and in which one was set
pub map_taken : {X : Type 0} (f : X → List (Option Bool)) (rows made : List X) (all : List (List (Option Bool))) (i : ℕ) → map f rows ≡ all → made ≡ take i rows ++ drop (i + 1) rows → map f made ≡ take i all ++ drop (i + 1) all
map_taken f rows made all i e m =
    ap (map f) m ∙ map-append f (take i rows) (drop (i + 1) rows)
    ∙ sym (ap (λ (x : List (List (Option Bool))). x ++ map f (drop (i + 1) rows)) (take-map f i rows))
    ∙ sym (ap (λ (x : List (List (Option Bool))). take i (map f rows) ++ x) (drop-map f (i + 1) rows))
    ∙ ap (λ (x : List (List (Option Bool))). take i x ++ drop (i + 1) x) e

pub map_put : {X : Type 0} (f : X → List (Option Bool)) (rows : List X) (all : List (List (Option Bool))) (i : ℕ) (put row : X) → map f rows ≡ all → put ≡ row → map f (set rows i put) ≡ set all i (f row)
map_put f rows all i put row e same = map-set f rows i put ∙ ap (λ (x : List (List (Option Bool))). set x i (f put)) e ∙ ap (λ x. set all i (f x)) same

pub map_read : {X : Type 0} (f : X → List (Option Bool)) (rows : List X) (all : List (List (Option Bool))) (i : ℕ) (row : X) → map f rows ≡ all → i < length all → row ≡ get_or rows i row → f row ≡ get_or all i (f row)
map_read f rows all i row e lt r =
    ap f r ∙ sym (get_or-map f rows i row (f row) (omega (arith, lt, ap length e, length-map rows f))) ∙ ap (λ (x : List (List (Option Bool))). get_or x i (f row)) e

pub place_below : {X : Type 0} (f : X → List (Option Bool)) (rows : List X) (all : List (List (Option Bool))) (i : ℕ) → map f rows ≡ all → i ≤ length all → (i ≡ length rows → ⊥) → i < length all
place_below f rows all i e le other =
    let long : length rows ≡ length all = sym (length-map rows f) ∙ ap length e in
    omega (arith, le, long, λ (same : i ≡ length all). other (same ∙ sym long))

pub read_through : {X : Type 0} (rows : List X) (i : ℕ) (row other : X) → row ≡ other → other ≡ get_or rows i other → row ≡ get_or rows i row
read_through rows i row other e h = subst (λ x. x ≡ get_or rows i x) (sym e) h

-- the row at an index is removed and held
pub holds_taken : (all : List (List (Option Bool))) (i : ℕ) (row : List (Option Bool)) (new : Shape) → i < length all → row ≡ get_or all i row → new.rows ≡ take i all ++ drop (i + 1) all → Holds (take i all) (drop i all) new i (Some row)
holds_taken all i row new lt r e =
    let long : length (take i all) ≡ i = omega (arith, length-take i all, lt) in
    let counted : length new.rows ≡ length (take i all) + length (drop (i + 1) all) = ap length e ∙ length-append (take i all) (drop (i + 1) all) in
    let rest : drop i new.rows ≡ drop (i + 1) all = ap (drop i) e ∙ drop_at (take i all) (drop (i + 1) all) i long in
    let whole : drop i all ≡ row ∷ drop (i + 1) all = at_drop_more (λ (x : List (List (Option Bool))). x) all i row lt ∙ ap (λ (x : List (Option Bool)). x ∷ drop (i + 1) all) (sym r) in record {
      inside = omega (arith, long, counted);
      before = ap (take i) e ∙ take_at (take i all) (drop (i + 1) all) i long;
      behind = ap (λ (x : List (List (Option Bool))). row ∷ x) rest ∙ sym whole;
      last = λ h. cc;
    }

-- a row is set at an index, and the one that was there is held
pub holds_put : (all : List (List (Option Bool))) (i : ℕ) (row next : List (Option Bool)) (new : Shape) → i < length all → next ≡ get_or all i next → new.rows ≡ set all i row → Holds (take i all ++ row ∷ []) (drop i all) new (i + 1) (Some next)
holds_put all i row next new lt r e =
    let rest : drop (i + 1) new.rows ≡ drop (i + 1) all = ap (drop (i + 1)) e ∙ drop-set-lt (i + 1) all i row (omega arith) in
    let whole : drop i all ≡ next ∷ drop (i + 1) all = at_drop_more (λ (x : List (List (Option Bool))). x) all i next lt ∙ ap (λ (x : List (Option Bool)). x ∷ drop (i + 1) all) (sym r) in record {
      inside = omega (arith, ap length e, length-set all i row, lt);
      before = ap (take (i + 1)) e ∙ take_more_set all i row lt;
      behind = ap (λ (x : List (List (Option Bool))). next ∷ x) rest ∙ sym whole;
      last = λ h. cc;
    }

-- the row that was in hand stays where it is needed
pub holds_stays : (on : List Bool → Bool) (all : List (List (Option Bool))) (i : ℕ) (row : List (Option Bool)) (new : Shape) (place : ℕ) (hand : Option (List (Option Bool))) (needed : Bool)
    → needed ≡ has_own_point on row all → needed ≡ true → Holds (take i all ++ row ∷ []) (drop i all) new place hand → Holds (with_needed on (take i all) row (drop i all)) (drop i all) new place hand
unfolding with_needed
holds_stays on all i row new place hand needed e t h =
    let test : has_own_point on row (take i all ++ drop i all) ≡ true = ap (λ (x : List (List (Option Bool))). has_own_point on row x) (take-append-drop i all) ∙ sym e ∙ t in
    let kept : with_needed on (take i all) row (drop i all) ≡ take i all ++ row ∷ [] = rw test refl in
    subst (λ (x : List (List (Option Bool))). Holds x (drop i all) new place hand) (sym kept) h

pub holds_goes : (on : List Bool → Bool) (all : List (List (Option Bool))) (i : ℕ) (row : List (Option Bool)) (new : Shape) (place : ℕ) (hand : Option (List (Option Bool))) (needed : Bool)
    → needed ≡ has_own_point on row all → needed ≡ false → Holds (take i all) (drop i all) new place hand → Holds (with_needed on (take i all) row (drop i all)) (drop i all) new place hand
unfolding with_needed
holds_goes on all i row new place hand needed e t h =
    let test : has_own_point on row (take i all ++ drop i all) ≡ false = ap (λ (x : List (List (Option Bool))). has_own_point on row x) (take-append-drop i all) ∙ sym e ∙ t in
    let kept : with_needed on (take i all) row (drop i all) ≡ take i all = rw test refl in
    subst (λ (x : List (List (Option Bool))). Holds x (drop i all) new place hand) (sym kept) h

pub in_hand_is : {X : Type 0} (f : X → List (Option Bool)) (m : Meaning) (r : Refusals)
    (all : List (List (Option Bool))) (others : Shape) (i : ℕ) (hand : Option X) (row : X)
    → hand ≡ Some row → IsTrimming m r all others i (option_map f hand)
    → IsTrimming m r all others i (Some (f row))
in_hand_is f m r all others i hand row e t = subst
    (λ (h : Option (List (Option Bool))). IsTrimming m r all others i h) (ap (option_map f) e) t

-- the row in hand has the width
pub width_in_hand : (m : Meaning) (r : Refusals) (all : List (List (Option Bool))) (others : Shape)
    (i : ℕ) (row : List (Option Bool)) → IsTrimming m r all others i (Some row)
    → length row ≡ m.width
unfolding HasWidth
width_in_hand m r all others i row t = t.widths.0

-- the tests that are refused of rows still to come are those of all rows
refuses_same : (m : Meaning) (r : Refusals) (all kept made coming rest : List (List (Option Bool)))
    → kept ≡ made → coming ≡ rest
    → RefusesRow m r made rest ↔ RefusesRow m r [] all → RefusesRow m r kept coming
    ↔ RefusesRow m r [] all
refuses_same m r all kept made coming rest e d h =
    subst (λ (x : List (List (Option Bool))). RefusesRow m r x coming ↔ RefusesRow m r [] all)
    (sym e)
    (subst (λ (x : List (List (Option Bool))). RefusesRow m r made x ↔ RefusesRow m r [] all)
    (sym d) h)

-- one row further
pub trimming_more : (m n : Meaning) (r s : Refusals) (all : List (List (Option Bool)))
    (others new : Shape) (i place : ℕ) (row : List (Option Bool))
    (hand : Option (List (Option Bool)))
    → n ≡ m → SameRefusals r s → IsTrimming m r all others i (Some row)
    → (s.own row others.rows → ⊥) → new.width ≡ others.width
    → Holds (with_needed n.on (take i others.rows) row (drop i others.rows)) (drop i others.rows)
    new place hand
    → IsTrimming m r all new place hand
unfolding needed_behind HasWidth
trimming_more m n r s all others new i place row hand alike same t passed e held =
    let h : Holds (with_needed m.on (take i others.rows) row (drop i others.rows)) (drop i others.rows) new place hand
    = subst (λ (k : Meaning). Holds (with_needed k.on (take i others.rows) row (drop i others.rows)) (drop i others.rows) new place hand) alike held in
    let free : r.own row (take i others.rows ++ drop i others.rows) → ⊥
    = λ a. passed
    ((same.own row others.rows).0 (subst (r.own row) (take-append-drop i others.rows) a)) in
    let left : RefusesRow m r (with_needed m.on (take i others.rows) row (drop i others.rows))
    (drop i others.rows) ↔ RefusesRow m r [] all
    = (
      λ a. t.refuses.0 (row_later m r (take i others.rows) (drop i others.rows) row a),
      λ a. row_cases m r (take i others.rows) (drop i others.rows) row free (t.refuses.1 a),
    ) in record {
      inside = h.inside;
      last = h.last;
      width = e ∙ t.width;
      widths = subst (HasWidth m.width) (sym h.behind) t.widths.1;
      needed = rw (h.before, h.behind) t.needed;
      refuses = refuses_same m r all (take place new.rows)
          (with_needed m.on (take i others.rows) row (drop i others.rows))
          (in_hand hand (drop place new.rows)) (drop i others.rows) h.before h.behind left;
    }

-- a test that is refused
pub trimming_refused : (m : Meaning) (r s : Refusals) (all : List (List (Option Bool)))
    (others : Shape) (i : ℕ) (row : List (Option Bool)) → SameRefusals r s
    → IsTrimming m r all others i (Some row)
    → s.own row others.rows → RefusesRow m r [] all
trimming_refused m r s all others i row same t refused =
    t.refuses.0 (row_first m r (take i others.rows) (drop i others.rows) row
    (subst (r.own row) (sym (take-append-drop i others.rows))
    ((same.own row others.rows).1 refused)))

-- at the end
pub trimming_ends : (m : Meaning) (r : Refusals) (all : List (List (Option Bool))) (others : Shape)
    (i : ℕ) (w : ℕ) (hand : Option (List (Option Bool))) → w ≡ m.width
    → IsTrimming m r all others i hand → hand ≡ None
    → others ≡ record { width = w; rows = needed_behind m.on [] all }
unfolding needed_behind
trimming_ends m r all others i w None e t n =
    let all_kept : take i others.rows ≡ others.rows = ap (λ (k : ℕ). take k others.rows) (t.last refl) ∙ take-length others.rows in
    let none_left : drop i others.rows ≡ [] = ap (λ (k : ℕ). drop k others.rows) (t.last refl) ∙ drop-length others.rows in
    let rows : others.rows ≡ needed_behind m.on [] all = sym all_kept ∙ sym (ap (needed_behind m.on (take i others.rows)) none_left) ∙ t.needed in
    ap (λ (k : ℕ). record { width = k; rows = others.rows }) (t.width ∙ sym e) ∙ ap (λ (x : List (List (Option Bool))). record { width = w; rows = x }) rows
trimming_ends m r all others i w (Some row) e t n = cc

pub trimming_passed : (m : Meaning) (r : Refusals) (all : List (List (Option Bool)))
    (others : Shape) (i : ℕ) (hand : Option (List (Option Bool))) → IsTrimming m r all others i hand
    → hand ≡ None → RefusesRow m r [] all → ⊥
trimming_passed m r all others i None t n refused =
    let none_left : drop i others.rows ≡ [] = ap (λ (k : ℕ). drop k others.rows) (t.last refl) ∙ drop-length others.rows in
    no_row m r (take i others.rows)
    (subst (RefusesRow m r (take i others.rows)) none_left (t.refuses.1 refused))
trimming_passed m r all others i (Some row) t n refused = cc
