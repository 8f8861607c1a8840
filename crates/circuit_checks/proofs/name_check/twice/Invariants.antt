use Rattle.std.proofs.Common.{◌≡◌, ℕ, List, take}
use Rattle.circuit_model.specs.Names.{has}
use Rattle.circuit_checks.specs.NameChecks.{is_twice}
use Rattle.circuit_checks.specs.Sets.{Alike}
use Rattle.circuit_checks.proofs.name_check.twice.Given as goal

abbrev pub invariant-loop-name : goal.invariant-loop-name
invariant-loop-name l = record {
  seen : Alike l.seen (take l.name-index l.names);
  again : (query : List ℕ) → has l.again query ≡ is_twice (take l.name-index l.names) query;
}
