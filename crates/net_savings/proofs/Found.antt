-- The best of all candidates is next, and if none saves a literal the circuit is done.
use Rattle.std.proofs.Common.{◌≡◌, ℕ, ◌+◌, ◌-◌, ◌<◌, ◌≤◌, List, Less, sym, ap, ◌∙◌, inl, inr, arith}
use Rattle.std.specs.List.{AllByRecursion}
use Rattle.std.proofs.lemmas.Bool.{cases_lt}
use Rattle.circuit_model.specs.Counts.{literals_of_table}
use Rattle.circuit_model.specs.Soundness.{given, IsSound}
use Rattle.circuit_model.specs.declared.circuit.Circuit.{Circuit}
use Rattle.net_candidates.specs.Candidates.{IsCandidate, literals_in}
use Rattle.net_candidates.specs.Extracting.{IsListable, IsOpen, IsNext, IsDone}
use Rattle.net_candidates.specs.declared.rule.Rule.{Rule}
use Rattle.net_candidates.proofs.Divisors.{cover_table_literals}
use Rattle.net_candidates.proofs.Proper.{candidate_literal}
use Rattle.net_candidates.proofs.Totals.{lost, lost_exact, best_from, done_from}
use Rattle.net_candidates.proofs.Usable.{tables_read, candidate_usable}
use Rattle.cover_names.specs.Literals.{NamedCover, cover_cmp}
use Rattle.net_core.specs.Fresh.{IsNewName}
use Rattle.alg_tables.specs.Dividing.{cover_table}
use Rattle.net_savings.specs.Saving.{IsSaving}

module _ (rule : Rule) (circuit : Circuit) (name : List ℕ) (sound : IsSound circuit) (new : IsNewName circuit name) where
  -- a candidate has a literal
  pub candidate_some : (cover : NamedCover) → IsCandidate rule circuit.tables cover → 1 ≤ literals_in cover
  candidate_some cover is = (candidate_literal rule (given circuit) circuit.tables cover (tables_read circuit sound) is).some

  own_literals : (cover : NamedCover) → IsCandidate rule circuit.tables cover → literals_of_table (cover_table name cover) ≡ literals_in cover
  own_literals cover is = cover_table_literals name cover (candidate_usable rule (given circuit) circuit.tables cover (tables_read circuit sound) is).apart

  -- a candidate that may be extracted, and for which the tables lose more literals than it has,
  -- saves the difference
  pub open_saves : (cover : NamedCover) → IsOpen rule circuit name cover → literals_in cover < lost name cover circuit.tables
      → IsSaving circuit.tables name cover (lost name cover circuit.tables - literals_in cover)
  open_saves cover may more = record {
    narrow = record { added = may.added; changed = may.changed };
    exact = let same : literals_of_table (cover_table name cover) ≡ literals_in cover = own_literals cover may.candidate in
        left (literals_in cover) (lost name cover circuit.tables) (literals_of_table (cover_table name cover)) same more;
    some = rest (literals_in cover) (lost name cover circuit.tables) more;
  }
    where
      left : (own all number : ℕ) → number ≡ own → own < all → all - own + number ≡ all
      left own all number same less = omega (arith, same, less)

      rest : (own all : ℕ) → own < all → 1 ≤ all - own
      rest own all less = omega (arith, less)

  pub none_done : AllByRecursion (IsListable rule) circuit.tables → ((other : NamedCover) (number : ℕ) → IsCandidate rule circuit.tables other → IsSaving circuit.tables name other number → ⊥) → IsDone rule circuit
  none_done listable none =
      done_from rule circuit name (λ cover. lost name cover circuit.tables) listable new (lost_exact rule circuit name sound new)
      (λ cover may. elim (cases_lt (literals_in cover) (lost name cover circuit.tables)) as (λ _. lost name cover circuit.tables ≤ literals_in cover) [
        | inl more ↦ absurd (none cover (lost name cover circuit.tables - literals_in cover) may.candidate (open_saves cover may more))
        | inr less ↦ less
      ])

  pub best_next : (cover : NamedCover) (saves : ℕ) → IsCandidate rule circuit.tables cover → AllByRecursion (IsListable rule) circuit.tables → IsSaving circuit.tables name cover saves
      → ((other : NamedCover) (number : ℕ) → IsCandidate rule circuit.tables other → IsSaving circuit.tables name other number → number ≤ saves)
      → ((other : NamedCover) (number : ℕ) → IsCandidate rule circuit.tables other → IsSaving circuit.tables name other number → number ≡ saves → cover_cmp other cover ≡ Less → ⊥)
      → IsNext rule circuit name cover
  best_next cover saves is listable saving most first = record {
    listable = listable;
    free = new;
    best = best_from rule circuit name (λ cover. lost name cover circuit.tables) cover (lost_exact rule circuit name sound new)
        (record { candidate = is; added = saving.narrow.added; changed = saving.narrow.changed })
        (let e : saves + literals_in cover ≡ lost name cover circuit.tables = exact in more_than saves (literals_in cover) (lost name cover circuit.tables) e saving.some)
        (λ other may. elim (cases_lt (literals_in other) (lost name other circuit.tables)) as (λ _. lost name other circuit.tables + literals_in cover ≤ lost name cover circuit.tables + literals_in other) [
          | inl more ↦ saved_less (lost name other circuit.tables) (literals_in other) saves (literals_in cover) (lost name cover circuit.tables) exact more
              (most other (lost name other circuit.tables - literals_in other) may.candidate (open_saves other may more))
          | inr less ↦ unsaved_less (lost name other circuit.tables) (literals_in other) saves (literals_in cover) (lost name cover circuit.tables) exact less
        ])
        (λ other may same below. elim (cases_lt (literals_in other) (lost name other circuit.tables)) as (λ _. ⊥) [
          | inl more ↦ first other (lost name other circuit.tables - literals_in other) may.candidate (open_saves other may more)
              (saved_same (lost name other circuit.tables) (literals_in other) saves (literals_in cover) (lost name cover circuit.tables) exact more same) below
          | inr less ↦ unsaved_not (lost name other circuit.tables) (literals_in other) saves (literals_in cover) (lost name cover circuit.tables) exact saving.some less same
        ]);
  }
    where
      exact : saves + literals_in cover ≡ lost name cover circuit.tables
      exact = ap (λ (n : ℕ). saves + n) (sym (own_literals cover is)) ∙ saving.exact

      more_than : (saves own all : ℕ) → saves + own ≡ all → 1 ≤ saves → own < all
      more_than saves own all e some = omega (arith, e, some)

      saved_less : (other_all other_own saves own all : ℕ) → saves + own ≡ all → other_own < other_all → other_all - other_own ≤ saves → other_all + own ≤ all + other_own
      saved_less other_all other_own saves own all e more most = omega (arith, e, more, most)

      unsaved_less : (other_all other_own saves own all : ℕ) → saves + own ≡ all → other_all ≤ other_own → other_all + own ≤ all + other_own
      unsaved_less other_all other_own saves own all e less = omega (arith, e, less)

      saved_same : (other_all other_own saves own all : ℕ) → saves + own ≡ all → other_own < other_all → other_all + own ≡ all + other_own → other_all - other_own ≡ saves
      saved_same other_all other_own saves own all e more same = omega (arith, e, more, same)

      unsaved_not : (other_all other_own saves own all : ℕ) → saves + own ≡ all → 1 ≤ saves → other_all ≤ other_own → other_all + own ≡ all + other_own → ⊥
      unsaved_not other_all other_own saves own all e some less same = absurd (omega (arith, e, some, less, same))
