-- Rows and literals in a loop: those that are made, and those still to be made of the rest.
use Rattle.std.proofs.Common.{◌≡◌, ℕ, ◌+◌, ◌-◌, ◌<◌, ◌≤◌, zero, suc, Bool, true, false, if◌then◌else◌, eqb, Option, Some, None, List, [], ◌∷◌, ◌++◌, map, filter, drop, length, replicate, set, get_or, refl, sym, ap, ◌∙◌, arith}
use Rattle.std.proofs.lemmas.Bool.{eqb-true}
use Rattle.std.proofs.Math.Seq.{drop-cons}
use Rattle.std.proofs.lemmas.List.{map_push, append_assoc, append-nil, drop_all, length-replicate, replicate-append-replicate, set-append_right}
use Rattle.cube_cover.specs.Literals.{literal_number}
use Rattle.net_decomp.specs.Rules.{padded, signal_row, is_long, with_signals, first_literals, later_literals}

-- one more is made of the first of what is left
pub moved : {A : Type 0} (made new rest : List A) (x : A) → new ≡ made ++ x ∷ [] → new ++ rest ≡ made ++ x ∷ rest
moved {A = A} made new rest x h = ap (λ (l : List A). l ++ rest) h ∙ append_assoc made (x ∷ []) rest

not_zero : (n : ℕ) → eqb (suc n) 0 ≡ false
not_zero n = cases (eqb (suc n) 0) refl
  where
    cases : (b : Bool) → eqb (suc n) 0 ≡ b → eqb (suc n) 0 ≡ false
    cases true e = absurd (let z : suc n ≡ 0 = eqb-true (suc n) 0 e in omega (arith, z))
    cases false e = e

-- the first literals, one column further
first_cons : (left : ℕ) (literal : Option Bool) (row : List (Option Bool)) → first_literals left (literal ∷ row) ≡ (if eqb left 0 then None else literal) ∷ first_literals (left - literal_number literal) row
unfolding first_literals
first_cons zero None row = refl
first_cons (suc left) None row =
    let same : suc left ≡ suc left - 0 = omega arith in
    rw (not_zero left) (ap (λ (n : ℕ). None ∷ first_literals n row) same)
first_cons zero (Some bit) row = refl
first_cons (suc left) (Some bit) row =
    let less : left ≡ suc left - 1 = omega arith in
    rw (not_zero left) (ap (λ (n : ℕ). Some bit ∷ first_literals n row) less)

later_cons : (left : ℕ) (literal : Option Bool) (row : List (Option Bool)) → later_literals left (literal ∷ row) ≡ (if eqb left 0 then literal else None) ∷ later_literals (left - literal_number literal) row
unfolding later_literals
later_cons zero None row = refl
later_cons (suc left) None row =
    let same : suc left ≡ suc left - 0 = omega arith in
    rw (not_zero left) (ap (λ (n : ℕ). None ∷ later_literals n row) same)
later_cons zero (Some bit) row = refl
later_cons (suc left) (Some bit) row =
    let less : left ≡ suc left - 1 = omega arith in
    rw (not_zero left) (ap (λ (n : ℕ). None ∷ later_literals n row) less)

-- what is left from an index on
rest_cons : {A : Type 0} (all : List A) (i : ℕ) (x other : A) → i < length all → x ≡ get_or all i other → drop i all ≡ x ∷ drop (i + 1) all
rest_cons {A = A} all i x other in_range is =
    let one : suc i ≡ i + 1 = omega arith in
    drop-cons all i other in_range ∙ ap (λ (y : A). y ∷ drop (suc i) all) (sym is) ∙ ap (λ (n : ℕ). x ∷ drop n all) one

pub first_more : (all made new total : List (Option Bool)) (i left after : ℕ) (literal one : Option Bool) → i < length all → literal ≡ get_or all i None
    → one ≡ (if eqb left 0 then None else literal) → after ≡ left - literal_number literal → new ≡ made ++ one ∷ []
    → made ++ first_literals left (drop i all) ≡ total → new ++ first_literals after (drop (i + 1) all) ≡ total
first_more all made new total i left after literal one in_range is item behind pushed so_far =
    moved made new (first_literals after (drop (i + 1) all)) one pushed
    ∙ ap (λ (l : List (Option Bool)). made ++ l) (ap (λ (x : Option Bool). x ∷ first_literals after (drop (i + 1) all)) item
    ∙ ap (λ (n : ℕ). (if eqb left 0 then None else literal) ∷ first_literals n (drop (i + 1) all)) behind
    ∙ sym (first_cons left literal (drop (i + 1) all)) ∙ ap (first_literals left) (sym (rest_cons all i literal None in_range is)))
    ∙ so_far

pub later_more : (all made new total : List (Option Bool)) (i left after : ℕ) (literal one : Option Bool) → i < length all → literal ≡ get_or all i None
    → one ≡ (if eqb left 0 then literal else None) → after ≡ left - literal_number literal → new ≡ made ++ one ∷ []
    → made ++ later_literals left (drop i all) ≡ total → new ++ later_literals after (drop (i + 1) all) ≡ total
later_more all made new total i left after literal one in_range is item behind pushed so_far =
    moved made new (later_literals after (drop (i + 1) all)) one pushed
    ∙ ap (λ (l : List (Option Bool)). made ++ l) (ap (λ (x : Option Bool). x ∷ later_literals after (drop (i + 1) all)) item
    ∙ ap (λ (n : ℕ). (if eqb left 0 then literal else None) ∷ later_literals n (drop (i + 1) all)) behind
    ∙ sym (later_cons left literal (drop (i + 1) all)) ∙ ap (later_literals left) (sym (rest_cons all i literal None in_range is)))
    ∙ so_far

-- nothing is left
pub first_ended : (all made total : List (Option Bool)) (i left : ℕ) → length all ≤ i → made ++ first_literals left (drop i all) ≡ total → made ≡ total
unfolding first_literals
first_ended all made total i left past so_far =
    sym (append-nil made) ∙ ap (λ (l : List (Option Bool)). made ++ first_literals left l) (sym (drop_all i all past)) ∙ so_far

pub later_ended : (all made total : List (Option Bool)) (i left : ℕ) → length all ≤ i → made ++ later_literals left (drop i all) ≡ total → made ≡ total
unfolding later_literals
later_ended all made total i left past so_far =
    sym (append-nil made) ∙ ap (λ (l : List (Option Bool)). made ++ later_literals left l) (sym (drop_all i all past)) ∙ so_far

-- the row of a signal, as a row of dashes of which one is set
pub signal_set : (width added number : ℕ) → set (replicate (width + added) None) (width + number) (Some true) ≡ signal_row width added number
signal_set width added number =
    ap (λ (row : List (Option Bool)). set row (width + number) (Some true)) (sym (replicate-append-replicate width added None))
    ∙ set-append_right (replicate width None) (replicate added None) width (width + number) (Some true) (length-replicate width None) (omega arith)
    ∙ (let same : width + number - width ≡ number = omega arith in ap (λ (place : ℕ). replicate width None ++ set (replicate added None) place (Some true)) same)

-- rows of which the long ones are replaced by signals, one row further
signals_long : (width added number : ℕ) (row : List (Option Bool)) (rows : List (List (Option Bool))) → is_long row ≡ true
    → with_signals width added number (row ∷ rows) ≡ signal_row width added number ∷ with_signals width added (number + 1) rows
unfolding with_signals
signals_long width added number row rows long =
    let one : suc number ≡ number + 1 = omega arith in
    ap (λ (b : Bool). if b then signal_row width added number ∷ with_signals width added (suc number) rows else padded added row ∷ with_signals width added number rows) long
    ∙ ap (λ (n : ℕ). signal_row width added number ∷ with_signals width added n rows) one

signals_short : (width added number : ℕ) (row : List (Option Bool)) (rows : List (List (Option Bool))) → is_long row ≡ false
    → with_signals width added number (row ∷ rows) ≡ padded added row ∷ with_signals width added number rows
unfolding with_signals
signals_short width added number row rows short =
    ap (λ (b : Bool). if b then signal_row width added number ∷ with_signals width added (suc number) rows else padded added row ∷ with_signals width added number rows) short

-- a loop over rows that are to get signals: those made with those still to be made, and how many
-- signals there are
pub record AreSignalled {R : Type 0} (f : R → List (Option Bool)) (width added number index : ℕ) (rows made : List R) : Type 0 where
  pub made_so_far : map f made ++ with_signals width added number (map f (drop index rows)) ≡ with_signals width added 0 (map f rows)
  pub count : number + length (filter is_long (map f (drop index rows))) ≡ added
  pub few : number ≤ index

module _ {R : Type 0} (f : R → List (Option Bool)) where
  long_count : (row : List (Option Bool)) (rows : List (List (Option Bool))) → is_long row ≡ true → length (filter is_long (row ∷ rows)) ≡ 1 + length (filter is_long rows)
  long_count row rows long =
      ap (λ (b : Bool). length (if b then row ∷ filter is_long rows else filter is_long rows)) long ∙ (let e : suc (length (filter is_long rows)) ≡ 1 + length (filter is_long rows) = omega arith in e)

  short_count : (row : List (Option Bool)) (rows : List (List (Option Bool))) → is_long row ≡ false → length (filter is_long (row ∷ rows)) ≡ length (filter is_long rows)
  short_count row rows short = ap (λ (b : Bool). length (if b then row ∷ filter is_long rows else filter is_long rows)) short

  pub signals_begin : (width added : ℕ) (rows made : List R) → made ≡ [] → added ≡ length (filter is_long (map f rows)) → AreSignalled f width added 0 0 rows made
  signals_begin width added rows made none is = record {
    made_so_far = ap (λ (l : List R). map f l ++ with_signals width added 0 (map f rows)) none;
    count = omega (arith, is);
    few = omega arith;
  }

  pub signals_end : (width added number index : ℕ) (rows made : List R) → length rows ≤ index → AreSignalled f width added number index rows made → map f made ≡ with_signals width added 0 (map f rows)
  unfolding with_signals
  signals_end width added number index rows made past so_far =
      sym (append-nil (map f made)) ∙ ap (λ (l : List R). map f made ++ with_signals width added number (map f l)) (sym (drop_all index rows past)) ∙ so_far.made_so_far

  -- a long one has a signal left
  pub signal_left : (width added number index : ℕ) (rows made : List R) (row : R) → AreSignalled f width added number index rows made → index < length rows → row ≡ get_or rows index row
      → is_long (f row) ≡ true → number < added
  signal_left width added number index rows made row so_far in_range is long =
      let more : length (filter is_long (map f (drop index rows))) ≡ 1 + length (filter is_long (map f (drop (index + 1) rows))) =
      ap (λ (l : List R). length (filter is_long (map f l))) (rest_cons rows index row row in_range is) ∙ long_count (f row) (map f (drop (index + 1) rows)) long in
      omega (arith, so_far.count, more)

  pub signals_more_long : (width added number index after : ℕ) (rows made new : List R) (row signal : R) → AreSignalled f width added number index rows made
      → index < length rows → row ≡ get_or rows index row → is_long (f row) ≡ true → f signal ≡ signal_row width added number → new ≡ made ++ signal ∷ [] → after ≡ number + 1
      → AreSignalled f width added after (index + 1) rows new
  signals_more_long width added number index after rows made new row signal so_far in_range is long as_signal pushed next =
      let rest = rest_cons rows index row row in_range is in
      let more : length (filter is_long (map f (drop index rows))) ≡ 1 + length (filter is_long (map f (drop (index + 1) rows))) =
      ap (λ (l : List R). length (filter is_long (map f l))) rest ∙ long_count (f row) (map f (drop (index + 1) rows)) long in
      record {
        made_so_far =
            moved (map f made) (map f new) (with_signals width added after (map f (drop (index + 1) rows))) (f signal) (ap (map f) pushed ∙ map_push f made signal)
            ∙ ap (λ (l : List (List (Option Bool))). map f made ++ l) (ap (λ (x : List (Option Bool)). x ∷ with_signals width added after (map f (drop (index + 1) rows))) as_signal
            ∙ ap (λ (n : ℕ). signal_row width added number ∷ with_signals width added n (map f (drop (index + 1) rows))) next
            ∙ sym (signals_long width added number (f row) (map f (drop (index + 1) rows)) long) ∙ ap (λ (l : List R). with_signals width added number (map f l)) (sym rest))
            ∙ so_far.made_so_far;
        count = omega (arith, so_far.count, more, next);
        few = omega (arith, so_far.few, next);
      }

  pub signals_more_short : (width added number index after : ℕ) (rows made new : List R) (row wide : R) → AreSignalled f width added number index rows made
      → index < length rows → row ≡ get_or rows index row → is_long (f row) ≡ false → f wide ≡ padded added (f row) → new ≡ made ++ wide ∷ [] → after ≡ number
      → AreSignalled f width added after (index + 1) rows new
  signals_more_short width added number index after rows made new row wide so_far in_range is short as_padded pushed next =
      let rest = rest_cons rows index row row in_range is in
      let same : length (filter is_long (map f (drop index rows))) ≡ length (filter is_long (map f (drop (index + 1) rows))) =
      ap (λ (l : List R). length (filter is_long (map f l))) rest ∙ short_count (f row) (map f (drop (index + 1) rows)) short in
      record {
        made_so_far =
            moved (map f made) (map f new) (with_signals width added after (map f (drop (index + 1) rows))) (f wide) (ap (map f) pushed ∙ map_push f made wide)
            ∙ ap (λ (l : List (List (Option Bool))). map f made ++ l) (ap (λ (x : List (Option Bool)). x ∷ with_signals width added after (map f (drop (index + 1) rows))) as_padded
            ∙ ap (λ (n : ℕ). padded added (f row) ∷ with_signals width added n (map f (drop (index + 1) rows))) next
            ∙ sym (signals_short width added number (f row) (map f (drop (index + 1) rows)) short) ∙ ap (λ (l : List R). with_signals width added number (map f l)) (sym rest))
            ∙ so_far.made_so_far;
        count = omega (arith, so_far.count, same, next);
        few = omega (arith, so_far.few, next);
      }
