-- Savings that are kept while tables are added and change.
use Rattle.std.proofs.Common.{◌≡◌, true, Result, Ok, Err, Option, Some, None, is_some, List, ℕ, IfOk, refl, sym, subst}
use Rattle.std.proofs.lemmas.Bool.{false≢true}
use Rattle.circuit_model.specs.declared.circuit.Table.{Table}
use Rattle.net_candidates.specs.declared.rule.Rule.{Rule}
use Rattle.net_savings.specs.declared.kept.CandidateQueue.{CandidateQueue}
use Rattle.net_core.specs.Tables.{named}
use Rattle.net_core.specs.declared.adding.AddFault.{AddFault}
use Rattle.net_core.specs.declared.table.CoverTable.{CoverTable}
use Rattle.net_work.specs.Placed.{Placed, table_at, with_slot, with_last, AddsLast}
use Rattle.net_extract.specs.Known.{AreSaved, StaySaved}

pub saved_after_add : {R : Type 0} (now new : Placed) (table : CoverTable R) (known after : Option CandidateQueue) (result : Result (List ℕ) AddFault)
    → ((rule : Rule) (output : List ℕ) → AreSaved rule now known → AreSaved rule (with_last now (named output table)) after) → AddsLast now table new result → IfOk result (λ _. StaySaved now known new after)
saved_after_add now new table known after (Ok name) kept adds = λ rule saved. subst (λ (p : Placed). AreSaved rule p after) (sym adds.2) (kept rule name saved)
saved_after_add now new table known after (Err fault) kept adds = tt

pub saved_after_set : {R : Type 0} (now new : Placed) (place : ℕ) (table : CoverTable R) (known after : Option CandidateQueue) → is_some (table_at now.slots place) ≡ true
    → ((rule : Rule) (old : Table) → table_at now.slots place ≡ Some old → AreSaved rule now known → AreSaved rule (with_slot now place (Some (named old.output table))) after)
    → ((old : Table) → table_at now.slots place ≡ Some old → new ≡ with_slot now place (Some (named old.output table))) → StaySaved now known new after
saved_after_set now new place table known after some kept is = λ rule saved. cases rule saved (table_at now.slots place) refl some
  where
    cases : (rule : Rule) → AreSaved rule now known → (o : Option Table) → table_at now.slots place ≡ o → is_some o ≡ true → AreSaved rule new after
    cases rule saved None e h = absurd (false≢true h)
    cases rule saved (Some old) e h = subst (λ (p : Placed). AreSaved rule p after) (sym (is old e)) (kept rule old e saved)
