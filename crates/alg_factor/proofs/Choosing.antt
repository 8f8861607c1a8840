-- The best literal of a rank below a bound, as the bound grows.
use Rattle.std.proofs.Common.{◌≡◌, ℕ, ◌+◌, ◌*◌, ◌<◌, ◌≤◌, zero, suc, Bool, true, false, ltb, if◌then◌else◌, Option, Some, None, List, [], ◌∷◌, length, get_or, refl, arith, inl, inr, ◌⊎◌, MatchOption}
use Rattle.std.proofs.lemmas.Bool.{ltb-true, ltb-false}
use Rattle.sis_base.specs.Rows.{HasWidth}
use Rattle.cube_cover.specs.Literals.{literal_occurrences}
use Rattle.alg_factor.specs.Forms.{Form, Sum, Split, rank, IsChosen, NoneShared, IsFactored, IsOver, with_literal, no_literal}
use Rattle.alg_factor.specs.Choices.{IsBestOf, IsBest, greater}
use Rattle.alg_factor.specs.declared.choice.Best.{Best}
use Rattle.alg_factor.proofs.Laws.{rank-one, HasWidth-with, HasWidth-no}

-- a literal of the next rank is that literal
pub rank_next : (i j : ℕ) (b d : Bool) (rows : List (List (Option Bool))) → rank i b < rank j d + 1 → (rank i b < rank j d) ⊎ (literal_occurrences i b rows ≡ literal_occurrences j d rows)
rank_next i j b d rows h = cases (ltb (rank i b) (rank j d)) refl
  where
    cases : (t : Bool) → ltb (rank i b) (rank j d) ≡ t → (rank i b < rank j d) ⊎ (literal_occurrences i b rows ≡ literal_occurrences j d rows)
    cases true e = inl (ltb-true (rank i b) (rank j d) e)
    cases false e =
        let above : rank j d ≤ rank i b = ltb-false (rank i b) (rank j d) e in
        let one : (i ≡ j) × (b ≡ d) = rank-one i j b d (omega arith) in inr (rw (one.0, one.1) refl)

pub best-first : (rows : List (List (Option Bool))) (next : Best) → next.count ≡ literal_occurrences next.place next.bit rows → IsBest (rank next.place next.bit) rows None → IsBest (rank next.place next.bit + 1) rows (greater None next)
best-first rows next e h = cases (ltb next.count 2) refl
  where
    cases : (t : Bool) → ltb next.count 2 ≡ t → IsBest (rank next.place next.bit + 1) rows (if t then None else Some next)
    cases true less = λ i b below. elim (rank_next i next.place b next.bit rows below) [ inl k ↦ h i b k | inr k ↦ omega (arith, ltb-true next.count 2 less) ]
    cases false less =
        let two : 2 ≤ next.count = ltb-false next.count 2 less in
        record {
          count = e;
          two = two;
          below = omega arith;
          most = λ i b below. elim (rank_next i next.place b next.bit rows below) [ inl k ↦ omega (arith, h i b k) | inr k ↦ omega arith ];
          first = λ i b below. omega (arith, h i b below);
        }

pub best-next : (rows : List (List (Option Bool))) (best next : Best) → next.count ≡ literal_occurrences next.place next.bit rows → IsBestOf (rank next.place next.bit) rows best → IsBest (rank next.place next.bit + 1) rows (greater (Some best) next)
best-next rows best next e h = cases (ltb best.count next.count) refl
  where
    cases : (t : Bool) → ltb best.count next.count ≡ t → IsBest (rank next.place next.bit + 1) rows (if t then Some next else Some best)
    cases true less =
        let more : best.count < next.count = ltb-true best.count next.count less in
        record {
          count = e;
          two = omega (arith, h.two);
          below = omega arith;
          most = λ i b below. elim (rank_next i next.place b next.bit rows below) [ inl k ↦ omega (arith, h.most i b k) | inr k ↦ omega arith ];
          first = λ i b below. omega (arith, h.most i b below);
        }
    cases false less =
        let least : next.count ≤ best.count = ltb-false best.count next.count less in
        record {
          count = h.count;
          two = h.two;
          below = omega (arith, h.below);
          most = λ i b below. elim (rank_next i next.place b next.bit rows below) [ inl k ↦ h.most i b k | inr k ↦ omega arith ];
          first = h.first;
        }

-- one literal more
pub best-greater : (rows : List (List (Option Bool))) (best : Option Best) (next : Best) → next.count ≡ literal_occurrences next.place next.bit rows → IsBest (rank next.place next.bit) rows best → IsBest (rank next.place next.bit + 1) rows (greater best next)
best-greater rows None next e h = best-first rows next e h
best-greater rows (Some best) next e h = best-next rows best next e h

-- no row has a literal past the width
pub get_or-past : (row : List (Option Bool)) (i : ℕ) → length row ≤ i → get_or row i None ≡ None
get_or-past [] i h = refl
get_or-past (x ∷ xs) zero h = absurd (omega arith)
get_or-past (x ∷ xs) (suc i) h = get_or-past xs i (omega arith)

pub literal_occurrences-past : (w i : ℕ) (b : Bool) (rows : List (List (Option Bool))) → HasWidth w rows → w ≤ i → literal_occurrences i b rows ≡ 0
unfolding HasWidth literal_occurrences
literal_occurrences-past w i b [] h le = refl
literal_occurrences-past w i b (row ∷ rows) h le = rw (get_or-past row i (omega (arith, h.0)), literal_occurrences-past w i b rows h.1 le) refl

pub rank-place : (i : ℕ) (b : Bool) → 2 * i ≤ rank i b
rank-place i false = omega arith
rank-place i true = omega arith

pub rank-below : (i w : ℕ) (b : Bool) → rank i b < 2 * w → i < w
rank-below i w b h = omega (arith, rank-place i b)

pub below-rank : (i w : ℕ) (b : Bool) → i < w → rank i b < 2 * w
below-rank i w false h = omega arith
below-rank i w true h = omega arith

-- the best of all literals
pub none-shared : (w : ℕ) (rows : List (List (Option Bool))) → HasWidth w rows → IsBest (2 * w) rows None → NoneShared rows
none-shared w rows h best i b = cases (ltb i w) refl
  where
    cases : (t : Bool) → ltb i w ≡ t → literal_occurrences i b rows < 2
    cases true e = best i b (below-rank i w b (ltb-true i w e))
    cases false e = omega (arith, literal_occurrences-past w i b rows h (ltb-false i w e))

pub chosen-best : (w : ℕ) (rows : List (List (Option Bool))) (best : Best) → HasWidth w rows → IsBest (2 * w) rows (Some best) → (best.place < w) × IsChosen best.place best.bit rows
chosen-best w rows best h k = (
  rank-below best.place w best.bit k.below,
  record {
    two = omega (arith, k.two, k.count);
    most = λ i b. cases i b (ltb i w) refl;
    first = λ i b below. omega (arith, k.first i b below, k.count);
  },
)
  where
    cases : (i : ℕ) (b : Bool) (t : Bool) → ltb i w ≡ t → literal_occurrences i b rows ≤ literal_occurrences best.place best.bit rows
    cases i b true e = omega (arith, k.most i b (below-rank i w b (ltb-true i w e)), k.count)
    cases i b false e = omega (arith, literal_occurrences-past w i b rows h (ltb-false i w e))

pub best_answer : (w : ℕ) (rows : List (List (Option Bool))) (best : Option Best) → HasWidth w rows → IsBest (2 * w) rows best
    → MatchOption best (NoneShared rows) (λ (best : Best). (best.place < w) × IsChosen best.place best.bit rows)
best_answer w rows None h k = none-shared w rows h k
best_answer w rows (Some best) h k = chosen-best w rows best h k

-- a chosen literal is one of the inputs
pub chosen-below : (w i : ℕ) (b : Bool) (rows : List (List (Option Bool))) → HasWidth w rows → IsChosen i b rows → i < w
chosen-below w i b rows h k = cases (ltb i w) refl
  where
    cases : (t : Bool) → ltb i w ≡ t → i < w
    cases true e = ltb-true i w e
    cases false e = absurd (omega (arith, literal_occurrences-past w i b rows h (ltb-false i w e), k.two))

-- the factored form of rows of a width is over its inputs
pub over-factored : (w : ℕ) (rows : List (List (Option Bool))) (f : Form) → HasWidth w rows → IsFactored rows f → IsOver w f
unfolding IsFactored IsOver
over-factored w rows (Sum sum) h k = rw k.0 h
over-factored w rows (Split i b q r) h k = (
  chosen-below w i b rows h k.0,
  over-factored w (with_literal i b rows) q (HasWidth-with w i b rows h) k.1,
  over-factored w (no_literal i b rows) r (HasWidth-no w i b rows h) k.2,
)
