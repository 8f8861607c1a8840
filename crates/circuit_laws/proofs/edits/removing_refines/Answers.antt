use Rattle.circuit_laws.proofs.Kept.{removed_refines, removed_refined, removed_values, removed_same, removed_keeps}
use Rattle.circuit_laws.proofs.edits.removing_refines.Goals as goal

pub returns-clause-forth : goal.returns-clause-forth
returns-clause-forth c = removed_refines

pub returns-clause-back : goal.returns-clause-back
returns-clause-back c = removed_refined

pub returns-clause-values : goal.returns-clause-values
returns-clause-values c = removed_values

pub returns-clause-same : goal.returns-clause-same
returns-clause-same c = removed_same

pub returns-clause-keeps : goal.returns-clause-keeps
returns-clause-keeps c = removed_keeps
