-- The best division of indices is the best one of the circuit.
use Rattle.std.proofs.Common.{◌≡◌, ℕ, ◌+◌, ◌<◌, ◌≤◌, true, Some, refl, ap, inl, inr, arith}
use Rattle.circuit_model.specs.Counts.{literals_of}
use Rattle.circuit_model.specs.Names.{all_different}
use Rattle.circuit_model.specs.Soundness.{outputs_of}
use Rattle.circuit_model.specs.declared.circuit.Table.{Table}
use Rattle.net_work.specs.Placed.{Placed, standing, circuit_of, table_at}
use Rattle.net_resub.specs.Resubbed.{IsCandidate, IsEarlier, IsBest, IsDone, literals_after}
use Rattle.net_resub.specs.Best.{worth_at, IsAhead, IsFirst}
use Rattle.net_resub.specs.declared.divisions.Division.{Division}
use Rattle.net_resub.proofs.Slots.{has_place, pair_places}
use Rattle.net_resub.proofs.Graph.{one_place}
use Rattle.net_resub.proofs.Saving.{after_is, worth_candidate, candidate_worth}

module _ (placed : Placed) (different : all_different (outputs_of (standing placed.slots)) ≡ true) where
  earlier_ahead : (best : Division) (table divisor other other_by : Table) (p q : ℕ) → table_at placed.slots best.place ≡ Some table → table_at placed.slots best.by ≡ Some divisor
      → table_at placed.slots p ≡ Some other → table_at placed.slots q ≡ Some other_by → IsEarlier (circuit_of placed) (other_by, other) (divisor, table) → IsAhead p q best
  earlier_ahead best table divisor other other_by p q here there at_p at_q (inl pair) =
      let (one, two, below, first, second) = pair_places placed.slots other table pair in
      let same_one : one ≡ p = one_place placed.slots different one p other other first at_p refl in
      let same_two : two ≡ best.place = one_place placed.slots different two best.place table table second here refl in
      inl (omega (arith, below, same_one, same_two))
  earlier_ahead best table divisor other other_by p q here there at_p at_q (inr (same, pair)) =
      let (one, two, below, first, second) = pair_places placed.slots other_by divisor pair in
      let same_one : one ≡ q = one_place placed.slots different one q other_by other_by first at_q refl in
      let same_two : two ≡ best.by = one_place placed.slots different two best.by divisor divisor second there refl in
      inr (one_place placed.slots different p best.place other table at_p here (ap (λ (t : Table). t.output) same), omega (arith, below, same_one, same_two))

  pub best_is : (best : Division) (table divisor : Table) → IsFirst (worth_at placed.slots) best → table_at placed.slots best.place ≡ Some table
      → table_at placed.slots best.by ≡ Some divisor → IsBest (circuit_of placed) divisor table
  best_is best table divisor is here there =
      let some : 0 < worth_at placed.slots best.place best.by = is.saves in
      let (may, worth) = worth_candidate placed best.place best.by table divisor different here there some in
      let after = after_is placed best.place table divisor different here in
      let least : literals_after (circuit_of placed) divisor table + worth_at placed.slots best.place best.by ≡ literals_of (circuit_of placed) =
      omega (arith, some, after, worth) in
      record {
        may = may;
        saves = omega (arith, least, some);
        most = λ one allowed. most least one.0 one.1 allowed;
        first = λ one allowed same earlier. first least one.0 one.1 allowed same earlier;
      }
    where
      most : literals_after (circuit_of placed) divisor table + worth_at placed.slots best.place best.by ≡ literals_of (circuit_of placed) → (other_by other : Table) → IsCandidate (circuit_of placed) other_by other
          → literals_after (circuit_of placed) divisor table ≤ literals_after (circuit_of placed) other_by other
      most least other_by other may =
          let (p, at_p) = has_place placed.slots other may.stands in
          let (q, at_q) = has_place placed.slots other_by may.by_stands in
          let worth = candidate_worth placed p q other other_by different at_p at_q may in
          let after = after_is placed p other other_by different at_p in
          let le = is.most p q in
          omega (arith, least, worth, after, le)

      first : literals_after (circuit_of placed) divisor table + worth_at placed.slots best.place best.by ≡ literals_of (circuit_of placed) → (other_by other : Table) → IsCandidate (circuit_of placed) other_by other
          → literals_after (circuit_of placed) other_by other ≡ literals_after (circuit_of placed) divisor table → IsEarlier (circuit_of placed) (other_by, other) (divisor, table) → ⊥
      first least other_by other may same earlier =
          let (p, at_p) = has_place placed.slots other may.stands in
          let (q, at_q) = has_place placed.slots other_by may.by_stands in
          let worth = candidate_worth placed p q other other_by different at_p at_q may in
          let after = after_is placed p other other_by different at_p in
          let some = is.saves in
          let equal : worth_at placed.slots p q ≡ worth_at placed.slots best.place best.by = omega (arith, least, worth, after, same, some) in
          is.first p q equal (earlier_ahead best table divisor other other_by p q here there at_p at_q earlier)

  pub none_done : ((place by : ℕ) → worth_at placed.slots place by ≡ 0) → IsDone (circuit_of placed)
  none_done none (by, table) may =
      let (p, at_p) = has_place placed.slots table may.stands in
      let (q, at_q) = has_place placed.slots by may.by_stands in
      let worth = candidate_worth placed p q table by different at_p at_q may in
      let after = after_is placed p table by different at_p in
      let zero = none p q in
      omega (arith, worth, after, zero)
