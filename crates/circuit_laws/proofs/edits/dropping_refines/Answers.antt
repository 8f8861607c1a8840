use Rattle.circuit_laws.proofs.Kept.{kept_refines, kept_refined, kept_keeps}
use Rattle.circuit_laws.proofs.edits.dropping_refines.Goals as goal

pub returns-clause-forth : goal.returns-clause-forth
returns-clause-forth c = kept_refines

pub returns-clause-back : goal.returns-clause-back
returns-clause-back c = kept_refined

pub returns-clause-values : goal.returns-clause-values
returns-clause-values c = kept_keeps
