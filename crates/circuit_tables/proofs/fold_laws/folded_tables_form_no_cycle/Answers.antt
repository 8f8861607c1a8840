use Rattle.circuit_tables.proofs.Folded.{folded_outputs, folded_acyclic}
use Rattle.circuit_tables.proofs.fold_laws.folded_tables_form_no_cycle.Goals as goal

pub returns-clause-outputs : goal.returns-clause-outputs
returns-clause-outputs c = folded_outputs

pub returns-clause-acyclic : goal.returns-clause-acyclic
returns-clause-acyclic c = folded_acyclic
