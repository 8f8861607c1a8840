-- Rows with a literal whose column has one polarity only: what the rows cover does not depend on
-- them.
use Rattle.std.proofs.Common.{◌≡◌, ℕ, ◌<◌, ◌+◌, Bool, true, false, ◌||◌, if◌then◌else◌, Option, Some, None, is_none, List, [], ◌∷◌, length, get_or, set, refl, sym, ap, ◌∙◌, subst, arith, IsTrue, ◌↔◌}
use Rattle.std.proofs.lemmas.List.{set-get_or, length-set}
use Rattle.sis_base.specs.Rows.{agrees, matches, some_matches, HasWidth}
use Rattle.cube_cover.specs.Covers.{cofactor_rows, agreeing_rows, IsCovered}
use Rattle.cube_cover.specs.Literals.{literal_count, literal_occurrences, dashed_rows}
use Rattle.cube_cover.specs.Reductions.{IsUnateReduction}
use Rattle.cube_cover.proofs.Points.{matches-cofactor, value-cofactor}
use Rattle.cube_cover.proofs.Splits.{HasWidth-pick_agreeing, agreeing_covered}

-- where no row has the literal of a bit, the cofactor at that bit is the rows with a dash there
pub cofactor_of_dashed : (i : ℕ) (b : Bool) (rows : List (List (Option Bool))) → literal_occurrences i b rows ≡ 0 → cofactor_rows i b rows ≡ dashed_rows i rows
unfolding cofactor_rows dashed_rows literal_occurrences
cofactor_of_dashed i b [] e = refl
cofactor_of_dashed i b (row ∷ rows) e = cases (get_or row i None) b refl e (λ k. cofactor_of_dashed i b rows k)
  where
    cases : (l : Option Bool) (b : Bool) → get_or row i None ≡ l → literal_count b l + literal_occurrences i b rows ≡ 0 → (literal_occurrences i b rows ≡ 0 → cofactor_rows i b rows ≡ dashed_rows i rows)
        → (if agrees l b then set row i None ∷ cofactor_rows i b rows else cofactor_rows i b rows) ≡ (if is_none l then row ∷ dashed_rows i rows else dashed_rows i rows)
    cases None b a e rest =
        let same : set row i None ≡ row = ap (set row i) (sym a) ∙ set-get_or row i None in
        let tails : cofactor_rows i b rows ≡ dashed_rows i rows = rest (omega arith) in
        rw (same, tails) refl
    cases (Some true) true a e rest = absurd (omega arith)
    cases (Some false) false a e rest = absurd (omega arith)
    cases (Some true) false a e rest = rest (omega arith)
    cases (Some false) true a e rest = rest (omega arith)

pub dashed_match : (i : ℕ) (rows : List (List (Option Bool))) (p : List Bool) → some_matches (dashed_rows i rows) p ≡ true → some_matches rows p ≡ true
unfolding some_matches dashed_rows
dashed_match i [] p h = h
dashed_match i (row ∷ rows) p h = cases (is_none (get_or row i None)) (matches row p) refl h (λ k. dashed_match i rows p k)
  where
    cases : (t : Bool) (m : Bool) → matches row p ≡ m → some_matches (if t then row ∷ dashed_rows i rows else dashed_rows i rows) p ≡ true → (some_matches (dashed_rows i rows) p ≡ true → some_matches rows p ≡ true) → (m || some_matches rows p) ≡ true
    cases t true e h rest = refl
    cases true false e h rest = rest (rw e at h)
    cases false false e h rest = rest h

pub HasWidth-pick_dashed : (w i : ℕ) (rows : List (List (Option Bool))) → HasWidth w rows → HasWidth w (dashed_rows i rows)
unfolding HasWidth dashed_rows
HasWidth-pick_dashed w i [] h = tt
HasWidth-pick_dashed w i (row ∷ rows) h = cases (is_none (get_or row i None)) (HasWidth-pick_dashed w i rows h.1)
  where
    cases : (t : Bool) → HasWidth w (dashed_rows i rows) → HasWidth w (if t then row ∷ dashed_rows i rows else dashed_rows i rows)
    cases true rest = (h.0, rest)
    cases false rest = rest

none_is : (place : Option Bool) → is_none place ≡ true → place ≡ None
none_is None h = refl
none_is (Some x) h = cc

-- without the rows that have the other literal at a dash of the given row
pub dashed_reduction : (given : List (Option Bool)) (i : ℕ) (b : Bool) (rows : List (List (Option Bool))) → HasWidth (length given) rows → i < length given → is_none (get_or given i None) ≡ true → literal_occurrences i b rows ≡ 0 → IsUnateReduction given rows (dashed_rows i rows)
dashed_reduction given i b rows h lt n z =
    let e : get_or given i None ≡ None = none_is (get_or given i None) n in
    let same : set given i None ≡ given = ap (set given i) (sym e) ∙ set-get_or given i None in
    let free : agrees (get_or given i None) b ≡ true = ap (λ (x : Option Bool). agrees x b) e in record {
      widths = HasWidth-pick_dashed (length given) i rows h;
      answer = (
        λ t p d m. dashed_match i rows p (t p d m),
        λ t p d m.
            let there : matches given (set p i b) ≡ true = sym (matches-cofactor given p i b lt d free) ∙ ap (λ (x : List (Option Bool)). matches x p) same ∙ m in
            subst (λ (made : List (List (Option Bool))). some_matches made p ≡ true) (cofactor_of_dashed i b rows z)
            (value-cofactor (length given) rows p i b h lt d ∙ t (set p i b) (length-set p i b ∙ d) there),
      );
    }

-- the rows that agree with a literal of the given row
pub agreeing_reduction : (given : List (Option Bool)) (i : ℕ) (b : Bool) (rows : List (List (Option Bool))) → HasWidth (length given) rows → i < length given → get_or given i None ≡ Some b → IsUnateReduction given rows (agreeing_rows i b rows)
agreeing_reduction given i b rows w lt e = record { widths = HasWidth-pick_agreeing (length given) rows i b w; answer = agreeing_covered given rows i b w lt e }

pub reduction_same : (given : List (Option Bool)) (rows : List (List (Option Bool))) → HasWidth (length given) rows → IsUnateReduction given rows rows
reduction_same given rows h = record { widths = h; answer = (λ t. t, λ t. t) }

pub reduction_more : (given : List (Option Bool)) (rows between made : List (List (Option Bool))) → IsUnateReduction given rows between → IsUnateReduction given between made → IsUnateReduction given rows made
reduction_more given rows between made h k = record {
  widths = k.widths;
  answer = (λ t. h.answer.0 (k.answer.0 t), λ t. k.answer.1 (h.answer.1 t));
}

pub reduction_answer : (given : List (Option Bool)) (rows made : List (List (Option Bool))) (a : Bool) → IsUnateReduction given rows made → IsTrue a ↔ IsCovered given made → IsTrue a ↔ IsCovered given rows
reduction_answer given rows made a h k = (λ t. h.answer.0 (k.0 t), λ t. k.1 (h.answer.1 t))
