-- Sums over indices, each once, and over the tables there.
use Rattle.std.proofs.Common.{◌≡◌, ℕ, ◌+◌, ◌<◌, ◌==◌, zero, suc, true, Option, Some, None, List, [], ◌∷◌, length, set, get_or, refl, sym, ap, ◌∙◌, subst, inl, inr, arith}
use Rattle.std.specs.List.{sum_by, AllPairs}
use Rattle.std.specs.List.Sorted.{IsStrictlyIncreasing}
use Rattle.std.proofs.lemmas.Bool.{false≢true, or_cases, eqb-true, cases_order}
use Rattle.std.proofs.lemmas.List.Kept.{AllPairs-from_increasing}
use Rattle.std.proofs.lemmas.List.Sums.{sum_by-cons}
use Rattle.circuit_model.specs.declared.circuit.Table.{Table}
use Rattle.alg_div.specs.Cubes.{Has}
use Rattle.net_candidates.proofs.Sums.{AreOnce}
use Rattle.net_readers.specs.Fanouts.{is_in}
use Rattle.net_work.specs.Placed.{standing, joined, table_at}
use Rattle.net_core.proofs.Lookups.{get_set_other}

-- an index among indices
pub in_has : (places : List ℕ) (at : ℕ) → is_in places at ≡ true → Has at places
in_has [] at h = absurd (false≢true h)
in_has (first ∷ places) at h = elim (or_cases (first == at) (is_in places at) h) as (λ _. Has at (first ∷ places)) [
  | inl e ↦ inl (sym (eqb-true first at e))
  | inr k ↦ inr (in_has places at k)
]

-- rising indices occur once each
has_index : (places : List ℕ) (at d : ℕ) → Has at places → (i : ℕ) × (i < length places) × (get_or places i d ≡ at)
has_index [] at d m = absurd m
has_index (first ∷ places) at d m = elim m as (λ _. (i : ℕ) × (i < length (first ∷ places)) × (get_or (first ∷ places) i d ≡ at)) [
  | inl e ↦ (0, omega arith, sym e)
  | inr n ↦ (let (i, below, is) = has_index places at d n in (suc i, omega (arith, below), is))
]

once_pairs : (places : List ℕ) → AllPairs (λ x y. x < y) places → AreOnce places
once_pairs [] h = tt
once_pairs (first ∷ places) h = (
  λ m. (let (i, below, is) = has_index places first first m in
      let less : first < get_or places i first = h 0 (suc i) first (omega arith) (omega (arith, below)) in
      absurd (omega (arith, less, is))),
  once_pairs places (λ i j d low high. h (suc i) (suc j) d (omega (arith, low)) (omega (arith, high))),
)

pub rising_once : (places : List ℕ) → IsStrictlyIncreasing places → AreOnce places
rising_once places h = once_pairs places (AllPairs-from_increasing places h)

module _ (f : Option Table → ℕ) (nothing : f None ≡ 0) where
  abbrev pub of_table : Table → ℕ
  of_table table = f (Some table)

  -- the sum over all tables if the summand at each index is 0
  sum_none : (slots : List (Option Table)) → ((at : ℕ) → f (table_at slots at) ≡ 0) → sum_by of_table (standing slots) ≡ 0
  unfolding standing
  sum_none [] none = refl
  sum_none (None ∷ slots) none = sum_none slots (λ at. none (suc at))
  sum_none (Some first ∷ slots) none =
      let here : f (Some first) ≡ 0 = none 0 in
      let rest : sum_by of_table (standing slots) ≡ 0 = sum_none slots (λ at. none (suc at)) in
      omega (arith, here, rest, sum_by-cons of_table first (standing slots))

  -- the table at an index, and all others
  sum_cleared : (slots : List (Option Table)) (at : ℕ) → sum_by of_table (standing slots) ≡ f (table_at slots at) + sum_by of_table (standing (set slots at None))
  unfolding standing
  sum_cleared [] at = omega (arith, nothing)
  sum_cleared (None ∷ slots) zero = omega (arith, nothing)
  sum_cleared (None ∷ slots) (suc at) = sum_cleared slots at
  sum_cleared (Some first ∷ slots) zero = sum_by-cons of_table first (standing slots)
  sum_cleared (Some first ∷ slots) (suc at) =
      omega (arith, sum_cleared slots at, sum_by-cons of_table first (standing slots), sum_by-cons of_table first (standing (set slots at None)))

  -- the tables at other indices
  cleared_other : (slots : List (Option Table)) (at other : ℕ) → (at ≡ other → ⊥) → table_at (set slots at None) other ≡ table_at slots other
  cleared_other slots at other apart = ap joined (get_set_other slots at other None (λ e. apart (sym e)))

  cleared_here : (slots : List (Option Table)) (at : ℕ) → f (table_at (set slots at None) at) ≡ 0
  cleared_here [] at = nothing
  cleared_here (first ∷ slots) zero = nothing
  cleared_here (first ∷ slots) (suc at) = cleared_here slots at

  sum_elsewhere : (slots : List (Option Table)) (at : ℕ) (places : List ℕ) → (Has at places → ⊥)
      → sum_by (λ place. f (table_at (set slots at None) place)) places ≡ sum_by (λ place. f (table_at slots place)) places
  sum_elsewhere slots at [] away = refl
  sum_elsewhere slots at (first ∷ places) away =
      let here : f (table_at (set slots at None) first) ≡ f (table_at slots first) = ap f (cleared_other slots at first (λ e. away (inl e))) in
      let rest : sum_by (λ place. f (table_at (set slots at None) place)) places ≡ sum_by (λ place. f (table_at slots place)) places =
      sum_elsewhere slots at places (λ m. away (inr m)) in
      omega (arith, here, rest, sum_by-cons (λ place. f (table_at (set slots at None) place)) first places, sum_by-cons (λ place. f (table_at slots place)) first places)

  -- the sum over indices outside of which the summands are 0 is that over all tables
  pub sum_places : (places : List ℕ) (slots : List (Option Table)) → AreOnce places → ((at : ℕ) → (Has at places → ⊥) → f (table_at slots at) ≡ 0)
      → sum_by (λ place. f (table_at slots place)) places ≡ sum_by of_table (standing slots)
  sum_places [] slots once none = sym (sum_none slots (λ at. none at (λ m. m)))
  sum_places (first ∷ places) slots once none =
      let left : (at : ℕ) → (Has at places → ⊥) → f (table_at (set slots first None) at) ≡ 0 = λ at away.
      elim (cases_order first at) as (λ _. f (table_at (set slots first None) at) ≡ 0) [
        | inl e ↦ subst (λ (i : ℕ). f (table_at (set slots first None) i) ≡ 0) e (cleared_here slots first)
        | inr (inl less) ↦ ap f (cleared_other slots first at (λ e. absurd (omega (arith, less, e)))) ∙ none at (λ m. elim m as (λ _. ⊥) [ inl e ↦ absurd (omega (arith, less, e)) | inr n ↦ away n ])
        | inr (inr more) ↦ ap f (cleared_other slots first at (λ e. absurd (omega (arith, more, e)))) ∙ none at (λ m. elim m as (λ _. ⊥) [ inl e ↦ absurd (omega (arith, more, e)) | inr n ↦ away n ])
      ] in
      let rest : sum_by (λ place. f (table_at (set slots first None) place)) places ≡ sum_by of_table (standing (set slots first None)) =
      sum_places places (set slots first None) once.1 left in
      omega (arith, rest, sum_elsewhere slots first places once.0, sum_cleared slots first, sum_by-cons (λ place. f (table_at slots place)) first places)
