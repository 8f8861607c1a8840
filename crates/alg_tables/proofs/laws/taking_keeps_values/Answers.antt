use Rattle.alg_tables.proofs.Taken.{taken_value, taken_apart}
use Rattle.alg_tables.proofs.laws.taking_keeps_values.Goals as goal

pub returns-clause-value : goal.returns-clause-value
returns-clause-value c = taken_value

pub returns-clause-apart : goal.returns-clause-apart
returns-clause-apart c = taken_apart
