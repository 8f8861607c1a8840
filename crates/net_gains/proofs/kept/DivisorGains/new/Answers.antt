use Rattle.std.proofs.Common.{ℕ, List, ap, ◌∙◌}
use Rattle.circuit_model.specs.Names.{has}
use Rattle.net_gains.proofs.Taken.{has_in_order}
use Rattle.net_gains.proofs.kept.DivisorGains.new.Goals as goal

pub returns-clause-names : goal.returns-clause-names
returns-clause-names c = λ name. ap (λ (names : List (List ℕ)). has names name) c.in_ok-of.ensures.codes ∙ has_in_order c.args.names.items name
