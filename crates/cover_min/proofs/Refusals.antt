-- Tests that are refused while literals are removed, and while rows are.
use Rattle.std.proofs.Common.{◌≡◌, ℕ, ◌<◌, ◌+◌, zero, suc, Bool, true, Option, None, List, [], ◌∷◌}
use Rattle.std.proofs.Common.{◌++◌, length, get_or, set, map, Contains, refl, sym, ap, ◌∙◌, subst}
use Rattle.std.proofs.Common.{◌⊎◌, inl, inr, ◌↔◌, arith}
use Rattle.std.proofs.lemmas.List.{append_assoc}
use Rattle.std.proofs.lemmas.List.Elements.{Contains-append_right}
use Rattle.std.proofs.lemmas.Bool.{cases_eq}
use Rattle.sis_base.specs.Rows.{HasWidth}
use Rattle.cube_cover.specs.Covers.{Shape}
use Rattle.cube_cover.specs.Literals.{not_dash}
use Rattle.cover_min.specs.Minimum.{Meaning, widened_at, widened_to, widened, with_needed}
use Rattle.cover_min.specs.Minimum.{needed_behind, minimum_rows}
use Rattle.cover_min.specs.Refusals.{Refusals, SameRefusals, RefusesTo, RefusesLiteral, IsJudged}
use Rattle.cover_min.specs.Refusals.{RefusesRow, RefusesMinimum}
use Rattle.cover_min.specs.Trimming.{RefusesAt, IsSpreading}
use Rattle.cover_min.proofs.Widened.{length-widened_to, later-widened_to}

-- the literal of a row in a column is tested after those before it were removed where possible
pub asked_at : (m : Meaning) (r : Refusals) (row : List (Option Bool)) (i n : ℕ) → i < n
    → RefusesAt r (widened_to m.off row i) i → RefusesTo m r row n
asked_at m r row i n lt h = record {
  place = i;
  before = lt;
  literal = ap not_dash (sym (later-widened_to m.off row i i (omega arith))) ∙ h.literal;
  refused = h.refused;
}

-- one column further
pub not_further : (m : Meaning) (r : Refusals) (row : List (Option Bool)) (i : ℕ)
    → (RefusesTo m r row i → ⊥) → (RefusesAt r (widened_to m.off row i) i → ⊥)
    → RefusesTo m r row (i + 1) → ⊥
not_further m r row i before here h = cases (cases_eq h.place i)
  where
    cases : (h.place ≡ i) ⊎ (h.place ≡ i → ⊥) → ⊥
    cases (inl same) =
        here (record {
          literal = ap not_dash (later-widened_to m.off row i i (omega arith))
              ∙ subst (λ (k : ℕ). not_dash (get_or row k None) ≡ true) same h.literal;
          refused = subst (λ (k : ℕ). r.off (set (widened_to m.off row k) k None)) same h.refused;
        })
    cases (inr other) =
        before
        (record {
          place = h.place;
          before = omega (arith, h.before, other);
          literal = h.literal;
          refused = h.refused;
        })

pub not_before_first : (m : Meaning) (r : Refusals) (row : List (Option Bool)) → RefusesTo m r row 0
    → ⊥
not_before_first m r row h = omega (arith, h.before)

-- an oracle that refuses the same tests
pub at_same : (r s : Refusals) (row made : List (Option Bool)) (i : ℕ) → SameRefusals r s
    → row ≡ made → RefusesAt r row i ↔ RefusesAt s made i
at_same r s row made i alike e = (
  λ h. subst (λ (x : List (Option Bool)). RefusesAt s x i) e
      (record { literal = h.literal; refused = (alike.off (set row i None)).0 h.refused }),
  λ h.
      let there : RefusesAt s row i = subst (λ (x : List (Option Bool)). RefusesAt s x i) (sym e)
      h in
      record { literal = there.literal; refused = (alike.off (set row i None)).1 there.refused },
)

pub to_same : (m n : Meaning) (r s : Refusals) (row : List (Option Bool)) (k : ℕ) → n ≡ m
    → SameRefusals r s → RefusesTo m r row k ↔ RefusesTo n s row k
to_same m n r s row k alike same = (
  λ h. subst (λ (x : Meaning). RefusesTo x s row k) (sym alike)
      (record {
        place = h.place;
        before = h.before;
        literal = h.literal;
        refused = (same.off (set (widened_to m.off row h.place) h.place None)).0 h.refused;
      }),
  λ h.
      let there : RefusesTo m s row k = subst (λ (x : Meaning). RefusesTo x s row k) alike h in
      record {
        place = there.place;
        before = there.before;
        literal = there.literal;
        refused = (same.off (set (widened_to m.off row there.place) there.place None)).1
            there.refused;
      },
)

pub row_same : (m n : Meaning) (r s : Refusals) (kept coming : List (List (Option Bool))) → n ≡ m
    → SameRefusals r s → RefusesRow m r kept coming ↔ RefusesRow n s kept coming
row_same m n r s kept coming alike same = (
  λ h. subst (λ (x : Meaning). RefusesRow x s kept coming) (sym alike)
      (record {
        row = h.row;
        others = h.others;
        judged = h.judged;
        refused = (same.own h.row h.others).0
            h.refused;
      }),
  λ h.
      let there : RefusesRow m s kept coming = subst (λ (x : Meaning). RefusesRow x s kept coming)
      alike h in
      record {
        row = there.row;
        others = there.others;
        judged = there.judged;
        refused = (same.own there.row there.others).1 there.refused;
      },
)

-- a row whose literals in its first columns were removed where possible
pub widening_more : (m n : Meaning) (row made next : List (Option Bool)) (i : ℕ) → n ≡ m
    → made ≡ widened_to m.off row i → next ≡ widened_at n.off made i
    → next ≡ widened_to m.off row (i + 1)
unfolding widened_to
widening_more m n row made next i same e step =
    let further : suc i ≡ i + 1 = omega arith in
    let here : next ≡ widened_at m.off (widened_to m.off row i) i
    = subst (λ (x : List (Option Bool)). next ≡ widened_at m.off x i) e
    (subst (λ (k : Meaning). next ≡ widened_at k.off made i) same step) in
    subst (λ (k : ℕ). next ≡ widened_to m.off row k) further here

pub widening_passed : (m : Meaning) (r s : Refusals) (row made : List (Option Bool)) (i : ℕ)
    → SameRefusals r s → made ≡ widened_to m.off row i
    → (RefusesTo m r row i → ⊥) → (RefusesAt s made i → ⊥) → RefusesTo m r row (i + 1) → ⊥
widening_passed m r s row made i same e before here =
    not_further m r row i before
    (λ h. here ((at_same r s (widened_to m.off row i) made i same (sym e)).0 h))

pub widening_refused : (m : Meaning) (r s : Refusals) (row made : List (Option Bool)) (i : ℕ)
    → SameRefusals r s → made ≡ widened_to m.off row i
    → i < length row → RefusesAt s made i → RefusesTo m r row (length row)
widening_refused m r s row made i same e lt h =
    asked_at m r row i (length row) lt
    ((at_same r s (widened_to m.off row i) made i same (sym e)).1 h)

pub widening_length : (m : Meaning) (row made : List (Option Bool)) (i : ℕ) → made ≡ widened_to m.off row i → length made ≡ length row
widening_length m row made i e = ap length e ∙ length-widened_to m.off row i

-- the rows whose literals are tested: the first, or one of the rest
pub literal_first : (m : Meaning) (r : Refusals) (row : List (Option Bool))
    (rest : List (List (Option Bool))) → RefusesTo m r row (length row)
    → RefusesLiteral m r (row ∷ rest)
literal_first m r row rest h = record { row = row; among = (0, omega arith, refl); refused = h }

pub literal_later : (m : Meaning) (r : Refusals) (row : List (Option Bool))
    (rest : List (List (Option Bool))) → RefusesLiteral m r rest → RefusesLiteral m r (row ∷ rest)
literal_later m r row rest h = record {
  row = h.row;
  among = Contains-append_right (row ∷ []) rest h.row h.among;
  refused = h.refused;
}

pub literal_cases : (m : Meaning) (r : Refusals) (row : List (Option Bool))
    (rest : List (List (Option Bool))) → (RefusesTo m r row (length row) → ⊥)
    → RefusesLiteral m r (row ∷ rest) → RefusesLiteral m r rest
literal_cases m r row rest passed h = cases h.among.0 h.among.1 h.among.2
  where
    cases : (k : ℕ) → k < length (row ∷ rest) → get_or (row ∷ rest) k h.row ≡ h.row
        → RefusesLiteral m r rest
    cases zero lt same = absurd
        (passed
        (subst (λ (x : List (Option Bool)). RefusesTo m r x (length x)) (sym same) h.refused))
    cases (suc k) lt there = record
        { row = h.row; among = (k, omega (arith, lt), there); refused = h.refused }

pub no_literal : (m : Meaning) (r : Refusals) → RefusesLiteral m r [] → ⊥
no_literal m r h = omega (arith, h.among.1)

-- the rows that are judged: the first, or one of the rest
pub row_first : (m : Meaning) (r : Refusals) (kept rest : List (List (Option Bool)))
    (row : List (Option Bool)) → r.own row (kept ++ rest) → RefusesRow m r kept (row ∷ rest)
unfolding IsJudged
row_first m r kept rest row h = record
    { row = row; others = kept ++ rest; judged = inl (refl, refl); refused = h }

pub row_later : (m : Meaning) (r : Refusals) (kept rest : List (List (Option Bool)))
    (row : List (Option Bool)) → RefusesRow m r (with_needed m.on kept row rest) rest
    → RefusesRow m r kept (row ∷ rest)
unfolding IsJudged
row_later m r kept rest row h = record
    { row = h.row; others = h.others; judged = inr h.judged; refused = h.refused }

pub row_cases : (m : Meaning) (r : Refusals) (kept rest : List (List (Option Bool)))
    (row : List (Option Bool)) → (r.own row (kept ++ rest) → ⊥) → RefusesRow m r kept (row ∷ rest)
    → RefusesRow m r (with_needed m.on kept row rest) rest
unfolding IsJudged
row_cases m r kept rest row passed h = cases h.judged
  where
    cases : ((h.row ≡ row) × (h.others ≡ kept ++ rest)) ⊎ IsJudged m.on
        (with_needed m.on kept row rest) rest h.row h.others
        → RefusesRow m r (with_needed m.on kept row rest) rest
    cases (inl same) =
        absurd
        (passed
        (subst (λ (x : List (List (Option Bool))). r.own row x) same.1
        (subst (λ (x : List (Option Bool)). r.own x h.others) same.0 h.refused)))
    cases (inr later) = record
        { row = h.row; others = h.others; judged = later; refused = h.refused }

pub no_row : (m : Meaning) (r : Refusals) (kept : List (List (Option Bool)))
    → RefusesRow m r kept [] → ⊥
unfolding IsJudged
no_row m r kept h = h.judged

-- all rows are made wide, one after the other
pub spreading_width : (m : Meaning) (r : Refusals) (all coming rest : List (List (Option Bool)))
    (made : Shape) (row : List (Option Bool)) → IsSpreading m r all made coming
    → coming ≡ row ∷ rest → length row ≡ m.width
unfolding HasWidth
spreading_width m r all coming rest made row h e = (subst (HasWidth m.width) e h.widths).0

pub spreading_fits : (m n : Meaning) (r : Refusals) (all coming rest : List (List (Option Bool)))
    (made : Shape) (row prime : List (Option Bool)) → IsSpreading m r all made coming
    → coming ≡ row ∷ rest → prime ≡ widened n.off row → length prime ≡ made.width
spreading_fits m n r all coming rest made row prime h e wide = ap length wide
    ∙ length-widened_to n.off row (length row) ∙ spreading_width m r all coming rest made row h e
    ∙ sym h.width

pub spreading_more : (m n : Meaning) (r s : Refusals) (all coming rest : List (List (Option Bool)))
    (made new : Shape) (row prime : List (Option Bool)) → n ≡ m → SameRefusals r s
    → IsSpreading m r all made coming → coming ≡ row ∷ rest
    → (RefusesTo n s row (length row) → ⊥) → prime ≡ widened n.off row
    → new ≡ record made { rows = made.rows ++ prime ∷ [] } → IsSpreading m r all new rest
unfolding HasWidth
spreading_more m n r s all coming rest made new row prime alike same h e passed wide pushed =
    let prime_is : prime ≡ widened m.off row = subst (λ (k : Meaning). prime ≡ widened k.off row) alike wide in
    let free : RefusesTo m r row (length row)
    → ⊥ = λ t. passed ((to_same m n r s row (length row) alike same).0 t) in
    let there : RefusesLiteral m r (row ∷ rest)
    ↔ RefusesLiteral m r all = subst
    (λ (x : List (List (Option Bool))). RefusesLiteral m r x ↔ RefusesLiteral m r all) e
    h.refuses in record {
      width = ap (λ (s : Shape). s.width) pushed ∙ h.width;
      widths = (subst (HasWidth m.width) e h.widths).1;
      rows = ap (λ (s : Shape). s.rows ++ map (widened m.off) rest) pushed
          ∙ append_assoc made.rows (prime ∷ []) (map (widened m.off) rest)
          ∙ ap (λ (x : List (Option Bool)). made.rows ++ x ∷ map (widened m.off) rest) prime_is
          ∙ sym (ap (λ (x : List (List (Option Bool))). made.rows ++ map (widened m.off) x) e)
          ∙ h.rows;
      refuses = (
        λ t. there.0 (literal_later m r row rest t),
        λ t. literal_cases m r row rest free
            (there.1 t),
      );
    }

-- a test that is refused while they are made
pub spreading_refused : (m n : Meaning) (r s : Refusals)
    (all coming rest : List (List (Option Bool))) (made : Shape) (row : List (Option Bool)) → n ≡ m
    → SameRefusals r s → IsSpreading m r all made coming → coming ≡ row ∷ rest
    → RefusesTo n s row (length row) → RefusesLiteral m r all
spreading_refused m n r s all coming rest made row alike same h e refused =
    h.refuses.0
    (subst (RefusesLiteral m r) (sym e)
    (literal_first m r row rest ((to_same m n r s row (length row) alike same).1 refused)))

-- the minimum, where all rows were made wide
pub minimum_is : (m n : Meaning) (all : List (List (Option Bool))) (primes : Shape) (w : ℕ) → n ≡ m → primes ≡ record { width = w; rows = map (widened m.off) all }
    → ◌≡◌ {A = Shape} (record primes { rows = needed_behind n.on [] primes.rows }) (record { width = w; rows = minimum_rows m all })
unfolding minimum_rows
minimum_is m n all primes w alike e =
    ap (λ (k : Meaning). record primes { rows = needed_behind k.on [] primes.rows }) alike ∙ ap (λ (s : Shape). record s { rows = needed_behind m.on [] s.rows }) e

pub refused_behind : (m n : Meaning) (r s : Refusals) (all : List (List (Option Bool)))
    (primes : Shape) (w : ℕ) → n ≡ m → SameRefusals r s
    → primes ≡ record { width = w; rows = map (widened m.off) all }
    → RefusesRow n s [] primes.rows → RefusesMinimum m r all
refused_behind m n r s all primes w alike same e h =
    inr ((row_same m n r s [] (map (widened m.off) all) alike same).1
    (subst (λ (x : Shape). RefusesRow n s [] x.rows) e h))

pub passed_behind : (m n : Meaning) (r s : Refusals) (all : List (List (Option Bool)))
    (primes : Shape) (w : ℕ) → n ≡ m → SameRefusals r s
    → primes ≡ record { width = w; rows = map (widened m.off) all }
    → (RefusesLiteral m r all → ⊥) → (RefusesRow n s [] primes.rows → ⊥) → RefusesMinimum m r all
    → ⊥
passed_behind m n r s all primes w alike same e first last (inl h) = first h
passed_behind m n r s all primes w alike same e first last (inr h) =
    last (subst (λ (x : Shape). RefusesRow n s [] x.rows) (sym e)
    ((row_same m n r s [] (map (widened m.off) all) alike same).0 h))
