use Rattle.circuit_laws.proofs.Same.{same_refines, same_refined}
use Rattle.circuit_laws.proofs.sameness.same_refines.Goals as goal

pub returns-clause-forth : goal.returns-clause-forth
returns-clause-forth c = same_refines

pub returns-clause-back : goal.returns-clause-back
returns-clause-back c = same_refined
