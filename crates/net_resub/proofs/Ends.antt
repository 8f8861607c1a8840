-- Steps lead to a single end: the best division is unique, and if no division saves a literal there
-- is no step.
use Rattle.std.proofs.Common.{◌≡◌, ℕ, List, sym, ap, ap₂, ◌∙◌, inl, inr}
use Rattle.circuit_model.specs.Counts.{literals_of}
use Rattle.circuit_model.specs.declared.circuit.Table.{Table}
use Rattle.circuit_model.specs.declared.circuit.Circuit.{Circuit}
use Rattle.circuit_laws.proofs.Greedy.{ends_one, best_one as best_choice_one, none_best}
use Rattle.alg_div.specs.Cubes.{Has}
use Rattle.net_candidates.specs.Candidates.{ArePair}
use Rattle.net_candidates.proofs.Sums.{same_or_pair}
use Rattle.net_resub.specs.Resubbed.{with_resubbed, literals_after, Choice, IsCandidate, IsEarlier, IsBest, IsStep, IsDone, IsResubbed}

-- items of a list of which neither comes before the other are the same
neither_earlier : {X : Type 0} (xs : List X) (x y : X) → Has x xs → Has y xs → (ArePair xs x y → ⊥) → (ArePair xs y x → ⊥) → x ≡ y
neither_earlier xs x y m n h k =
    elim (same_or_pair xs x y m n) as (λ _. x ≡ y) [
      | inl e ↦ e
      | inr (inl pair) ↦ absurd (h pair)
      | inr (inr pair) ↦ absurd (k pair)
    ]

-- the best division is unique
module _ (circuit : Circuit) where
  abbrev Made : Choice → Type 0
  Made one = IsCandidate circuit one.0 one.1

  abbrev left : Choice → ℕ
  left one = literals_after circuit one.0 one.1

  neither_before : (one other : Choice) → Made one → Made other → (IsEarlier circuit one other → ⊥) → (IsEarlier circuit other one → ⊥) → one ≡ other
  neither_before (by, table) (other_by, other) may might h k =
      let same : table ≡ other = neither_earlier circuit.tables table other may.stands might.stands (λ pair. h (inl pair)) (λ pair. k (inl pair)) in
      let same_by : by ≡ other_by = neither_earlier circuit.tables by other_by may.by_stands might.by_stands (λ pair. h (inr (same, pair))) (λ pair. k (inr (sym same, pair))) in
      ap₂ (λ (x y : Table). (x, y)) same_by same

  best_one : (by table other_by other : Table) → IsBest circuit by table → IsBest circuit other_by other → ◌≡◌ {A = Choice} (by, table) (other_by, other)
  best_one by table other_by other = best_choice_one Made (IsEarlier circuit) left (literals_of circuit) neither_before (by, table) (other_by, other)

  pub best_by : (by table other_by other : Table) → IsBest circuit by table → IsBest circuit other_by other → by ≡ other_by
  best_by by table other_by other best second = ap (λ (one : Choice). one.0) (best_one by table other_by other best second)

  pub best_table : (by table other_by other : Table) → IsBest circuit by table → IsBest circuit other_by other → table ≡ other
  best_table by table other_by other best second = ap (λ (one : Choice). one.1) (best_one by table other_by other best second)

  -- if no division saves a literal there is no step
  done_no_step : IsDone circuit → (new : Circuit) → IsStep circuit new → ⊥
  done_no_step done new step = none_best Made (IsEarlier circuit) left (literals_of circuit) done (step.by, step.table) step.best

-- a step has one outcome
step_one : (circuit new other : Circuit) → IsStep circuit new → IsStep circuit other → new ≡ other
step_one circuit new other step second =
    step.made ∙ ap (λ (one : Choice). with_resubbed circuit one.0 one.1) (best_one circuit step.by step.table second.by second.table step.best second.best) ∙ sym second.made

pub resubbed_one : (circuit new other : Circuit) → IsResubbed circuit new → IsResubbed circuit other → new ≡ other
resubbed_one = ends_one IsStep step_one IsDone done_no_step
