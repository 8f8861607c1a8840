use Rattle.circuit_tables.proofs.Folded.{folded_shaped, folded_row_count, folded_input_count, folded_output}
use Rattle.circuit_tables.proofs.fold_laws.folded_is_shaped.Goals as goal

pub returns-clause-shaped : goal.returns-clause-shaped
returns-clause-shaped c = folded_shaped

pub returns-clause-rows : goal.returns-clause-rows
returns-clause-rows c = folded_row_count

pub returns-clause-inputs : goal.returns-clause-inputs
returns-clause-inputs c = folded_input_count

pub returns-clause-output : goal.returns-clause-output
returns-clause-output c = folded_output
