-- Indices that are visited: those of the divisors of a table, of the tables that it may divide, and
-- their pairs.
use Rattle.std.proofs.Common.{◌≡◌, ℕ, ◌+◌, ◌<◌, ◌≤◌, ◌==◌, zero, suc, Bool, true, false, ◌||◌, ◌&&◌, Option, Some, None, List, [], ◌∷◌, ◌++◌, length, get_or, take, eqb, eqb-true, refl, sym, ap, ◌∙◌, subst, inl, inr, arith, take_all}
use Rattle.std.specs.List.{Contains, dedup}
use Rattle.std.specs.List.Sorted.{IsPermutation}
use Rattle.std.proofs.lemmas.Bool.{false≢true, or_cases, eq-eqb, eqb-false, or_left, or_right}
use Rattle.std.proofs.lemmas.List.{take_more}
use Rattle.std.proofs.lemmas.List.Folds.{list_any-append}
use Rattle.std.proofs.lemmas.List.Kept.{Contains-dedup_nat}
use Rattle.std.proofs.lemmas.List.Sorted.{list_any-IsPermutation}
use Rattle.std.proofs.lemmas.Option.{none-some, same_Some}
use Rattle.circuit_model.specs.Names.{has}
use Rattle.circuit_model.specs.declared.circuit.Table.{Table}
use Rattle.net_readers.specs.Fanouts.{is_in}
use Rattle.net_work.specs.Placed.{table_at}
use Rattle.net_work.specs.Slots.{inputs_in, inputs_at}
use Rattle.cover_names.specs.Cubes.{is_over}
use Rattle.net_resub.specs.Resubbed.{row_cubes}
use Rattle.net_resub.specs.Candidates.{AreDivisors, AreDividends, is_by, is_with}
use Rattle.net_resub.specs.Divisions.{is_of, is_among, AreJust}
use Rattle.net_resub.specs.Listed.{IsNeeded, is_under, AreJoined, AreListed}
use Rattle.net_resub.specs.Pairs.{saving_at}
use Rattle.net_resub.specs.declared.divisions.Division.{Division}
use Rattle.net_resub.specs.declared.listed.DivisorLists.{DivisorLists}
use Rattle.net_resub.proofs.Listing.{in_append, in_front, in_back, one_in}
use Rattle.net_work.proofs.Indexed.{place_within}
use Rattle.net_resub.proofs.Saving.{saving_places, saving_over}

-- the divisors of a table
pub divisors_none : (slots : List (Option Table)) (place : ℕ) (places : List ℕ) → table_at slots place ≡ None → AreDivisors slots place places
divisors_none slots place places none by some =
    let at = saving_places slots place by some in
    absurd (none-some at.table (sym none ∙ at.here))

pub divisors_joined : (slots : List (Option Table)) (place : ℕ) (table : Table) (lists : DivisorLists) (before places : List ℕ) → table_at slots place ≡ Some table → AreListed (λ at. true) slots lists
    → before ≡ [] ++ lists.unnamed.items → AreJoined (is_under lists) table.inputs before places → AreDivisors slots place places
divisors_joined slots place table lists before places here are is joined by some =
    let at = saving_places slots place by some in
    let same : at.table ≡ table = same_Some at.table table (sym at.here ∙ here) in
    let over : is_over at.table.inputs (row_cubes at.divisor) ≡ true = saving_over at.divisor at.table (subst (λ (n : ℕ). 0 < n) at.is some) in
    elim (are by at.divisor refl at.there) as (λ _. is_in places by ≡ true) [
      | inl unnamed ↦ joined.more by (ap (λ (ps : List ℕ). is_in ps by) is ∙ unnamed.0)
      | inr named ↦ (let (name, needed, under) = named in joined.listed by name (ap (λ (t : Table). has t.inputs name) (sym same) ∙ needed at.table.inputs over) under)
    ]

-- indices that are sorted, each once
listed : (places : List ℕ) (at : ℕ) → is_in places at ≡ true → Contains places at
listed [] at h = absurd (false≢true h)
listed (first ∷ places) at h = elim (or_cases (eqb first at) (is_in places at) h) as (λ _. Contains (first ∷ places) at) [
  | inl e ↦ (0, omega arith, eqb-true first at e)
  | inr n ↦ (let p = listed places at n in (suc p.0, omega (arith, p.1), p.2))
]

among_listed : (places : List ℕ) (at k : ℕ) → k < length places → get_or places k at ≡ at → is_in places at ≡ true
among_listed [] at k lt e = absurd (omega (arith, lt))
among_listed (first ∷ places) at zero lt e = or_left (eqb first at) (is_in places at) (eq-eqb first at e)
among_listed (first ∷ places) at (suc k) lt e = or_right (eqb first at) (is_in places at) (among_listed places at k (omega (arith, lt)) e)

pub risen_all : (places sorted risen : List ℕ) → IsPermutation places sorted → risen ≡ dedup eqb sorted → (at : ℕ) → is_in places at ≡ true → is_in risen at ≡ true
risen_all places sorted risen same once at h =
    let (k, lt, e) = Contains-dedup_nat sorted at (listed sorted at (sym (list_any-IsPermutation (λ (other : ℕ). eqb other at) places sorted same) ∙ h)) in
    ap (λ (ps : List ℕ). is_in ps at) once ∙ among_listed (dedup eqb sorted) at k lt e

pub divisors_risen : (slots : List (Option Table)) (place : ℕ) (places risen : List ℕ) → AreDivisors slots place places → ((at : ℕ) → is_in places at ≡ true → is_in risen at ≡ true) → AreDivisors slots place risen
divisors_risen slots place places risen are all by some = all by (are by some)

-- the tables that a table may divide
pub dividends_none : (slots : List (Option Table)) (by : ℕ) (places : List ℕ) → table_at slots by ≡ None → AreDividends slots by places
dividends_none slots by places none place some =
    let at = saving_places slots place by some in
    absurd (none-some at.divisor (sym none ∙ at.there))

pub dividends_all : (slots : List (Option Table)) (by : ℕ) (places : List ℕ) → ((at : ℕ) → at < length slots → is_in places at ≡ true) → AreDividends slots by places
dividends_all slots by places all place some =
    let at = saving_places slots place by some in
    all place (place_within slots place at.table at.here)

pub dividends_readers : (slots : List (Option Table)) (by : ℕ) (divisor : Table) (name : List ℕ) (places : List ℕ) → table_at slots by ≡ Some divisor → IsNeeded (row_cubes divisor) name
    → ((at : ℕ) → is_in places at ≡ has (inputs_at slots at) name) → AreDividends slots by places
dividends_readers slots by divisor name places there needed told place some =
    let at = saving_places slots place by some in
    let same : at.divisor ≡ divisor = same_Some at.divisor divisor (sym at.there ∙ there) in
    let over = saving_over at.divisor at.table (subst (λ (n : ℕ). 0 < n) at.is some) in
    told place
    ∙ (ap (λ (o : Option Table). has (inputs_in o) name) at.here
    ∙ needed at.table.inputs (subst (λ (d : Table). is_over at.table.inputs (row_cubes d) ≡ true) same over))

-- the first indices
pub below_none : (at : ℕ) → at < 0 → is_in [] at ≡ true
below_none at lt = absurd (omega (arith, lt))

pub below_more : (places new : List ℕ) (count : ℕ) → ((at : ℕ) → at < count → is_in places at ≡ true) → new ≡ places ++ count ∷ [] → (at : ℕ) → at < count + 1 → is_in new at ≡ true
below_more places new count all is at lt = ap (λ (ps : List ℕ). is_in ps at) is ∙ cases (eqb at count) refl
  where
    cases : (b : Bool) → eqb at count ≡ b → is_in (places ++ count ∷ []) at ≡ true
    cases true e = in_back places (count ∷ []) at (ap (is_in (count ∷ [])) (eqb-true at count e) ∙ one_in count)
    cases false e = in_front places (count ∷ []) at (all at (let apart = eqb-false at count e in omega (arith, lt, apart)))

-- ---- pairs

in_more : (places : List ℕ) (i place none at : ℕ) → i < length places → place ≡ get_or places i none → is_in (take (i + 1) places) at ≡ (is_in (take i places) at || eqb place at)
in_more places i place none at below is =
    ap (λ (ps : List ℕ). is_in ps at) (take_more places i none below ∙ ap (λ (n : ℕ). take i places ++ n ∷ []) (sym is))
    ∙ (in_append (take i places) (place ∷ []) at ∙ ap (λ (b : Bool). is_in (take i places) at || b) (last (eqb place at)))
  where
    last : (b : Bool) → (b || false) ≡ b
    last true = refl
    last false = refl

among_put : (pairs new : List Division) (pair : Division) (division : Division) → new ≡ pairs ++ pair ∷ [] → is_among new division ≡ (is_among pairs division || is_of pair division)
among_put pairs new pair division is =
    ap (λ (ps : List Division). is_among ps division) is
    ∙ (list_any-append (λ (p : Division). is_of p division) pairs (pair ∷ []) ∙ ap (λ (b : Bool). is_among pairs division || b) (last (is_of pair division)))
  where
    last : (b : Bool) → (b || false) ≡ b
    last true = refl
    last false = refl

-- those by one table
abbrev pub ArePairsBy : ℕ → List ℕ → List Division → Type 0
ArePairsBy by places pairs = (division : Division) → is_among pairs division ≡ (is_in places division.place && is_by by division)

pub by_none : (by : ℕ) (pairs : List Division) → pairs ≡ [] → ArePairsBy by [] pairs
by_none by pairs none division = ap (λ (ps : List Division). is_among ps division) none

pub by_more : (by i place none : ℕ) (places : List ℕ) (pairs new : List Division) → i < length places → place ≡ get_or places i none → ArePairsBy by (take i places) pairs
    → new ≡ pairs ++ record { place = place; by = by } ∷ [] → ArePairsBy by (take (i + 1) places) new
by_more by i place none places pairs new below is are put division =
    among_put pairs new (record { place = place; by = by }) division put
    ∙ (ap (λ (b : Bool). b || ((place == division.place) && (by == division.by))) (are division)
    ∙ (both (is_in (take i places) division.place) (place == division.place) (by == division.by)
    ∙ ap (λ (b : Bool). b && (by == division.by)) (sym (in_more places i place none division.place below is))))
  where
    both : (a b c : Bool) → ((a && c) || (b && c)) ≡ ((a || b) && c)
    both true b true = refl
    both true true false = refl
    both true false false = refl
    both false b c = refl

pub by_all : (slots : List (Option Table)) (by i : ℕ) (places : List ℕ) (pairs : List Division) → length places ≤ i → AreDividends slots by places → ArePairsBy by (take i places) pairs
    → AreJust (is_by by) (saving_at slots) pairs
by_all slots by i places pairs long all are division some = are division ∙ cases (by == division.by) refl
  where
    cases : (b : Bool) → (by == division.by) ≡ b → (is_in (take i places) division.place && (by == division.by)) ≡ (by == division.by)
    cases true e =
        ap (λ (b : Bool). b && (by == division.by))
        (ap (λ (ps : List ℕ). is_in ps division.place) (take_all i places long)
        ∙ all division.place (subst (λ (n : ℕ). 0 < saving_at slots division.place n) (sym (eqb-true by division.by e)) some))
    cases false e = ap (λ (b : Bool). is_in (take i places) division.place && b) e ∙ (nothing (is_in (take i places) division.place) ∙ sym e)
      where
        nothing : (b : Bool) → (b && false) ≡ false
        nothing true = refl
        nothing false = refl

-- the divisions of one table by some others
abbrev pub ArePairsWith : List (Option Table) → ℕ → List ℕ → List Division → Type 0
ArePairsWith slots place places pairs = AreJust (λ division. is_by place division || ((place == division.place) && is_in places division.by)) (saving_at slots) pairs

pub with_none : (slots : List (Option Table)) (place : ℕ) (pairs : List Division) → AreJust (is_by place) (saving_at slots) pairs → ArePairsWith slots place [] pairs
with_none slots place pairs are division some = are division some ∙ same (is_by place division) (place == division.place)
  where
    same : (a b : Bool) → a ≡ (a || (b && false))
    same true b = refl
    same false true = refl
    same false false = refl

pub with_more : (slots : List (Option Table)) (place i by none : ℕ) (places : List ℕ) (pairs new : List Division) → i < length places → by ≡ get_or places i none → ArePairsWith slots place (take i places) pairs
    → new ≡ pairs ++ record { place = place; by = by } ∷ [] → ArePairsWith slots place (take (i + 1) places) new
with_more slots place i by none places pairs new below is are put division some =
    among_put pairs new (record { place = place; by = by }) division put
    ∙ (ap (λ (b : Bool). b || ((place == division.place) && (by == division.by))) (are division some)
    ∙ (both (is_by place division) (place == division.place) (is_in (take i places) division.by) (by == division.by)
    ∙ ap (λ (b : Bool). is_by place division || ((place == division.place) && b)) (sym (in_more places i by none division.by below is))))
  where
    both : (a b c d : Bool) → ((a || (b && c)) || (b && d)) ≡ (a || (b && (c || d)))
    both true b c d = refl
    both false true c d = refl
    both false false c d = refl

pub with_all : (slots : List (Option Table)) (place i : ℕ) (places : List ℕ) (pairs : List Division) → length places ≤ i → AreDivisors slots place places → ArePairsWith slots place (take i places) pairs
    → AreJust (is_with place) (saving_at slots) pairs
with_all slots place i places pairs long all are division some = are division some ∙ cases (place == division.place) refl
  where
    cases : (b : Bool) → (place == division.place) ≡ b
        → (is_by place division || ((place == division.place) && is_in (take i places) division.by)) ≡ ((place == division.place) || (place == division.by))
    cases true e =
        ap (λ (b : Bool). is_by place division || (b && is_in (take i places) division.by)) e
        ∙ (ap (λ (b : Bool). is_by place division || b)
        (ap (λ (ps : List ℕ). is_in ps division.by) (take_all i places long)
        ∙ all division.by (subst (λ (n : ℕ). 0 < saving_at slots n division.by) (sym (eqb-true place division.place e)) some))
        ∙ (whole (is_by place division) ∙ sym (ap (λ (b : Bool). b || (place == division.by)) e)))
      where
        whole : (b : Bool) → (b || true) ≡ true
        whole true = refl
        whole false = refl
    cases false e =
        ap (λ (b : Bool). is_by place division || (b && is_in (take i places) division.by)) e
        ∙ (nothing (is_by place division) ∙ sym (ap (λ (b : Bool). b || (place == division.by)) e))
      where
        nothing : (b : Bool) → (b || false) ≡ b
        nothing true = refl
        nothing false = refl
