use Rattle.std.proofs.Common.{◌≡◌, ℕ, true, List, take}
use Rattle.circuit_model.specs.Names.{has}
use Rattle.net_resub.proofs.reaching.are_all_among.Given as goal

abbrev pub invariant-loop-name : goal.invariant-loop-name
invariant-loop-name l = (name : List ℕ) → has (take l.name-index l.names) name ≡ true → has l.others name ≡ true
