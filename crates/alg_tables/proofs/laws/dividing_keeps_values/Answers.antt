use Rattle.alg_tables.proofs.Divided.{unread_stays}
use Rattle.alg_tables.proofs.CoverTables.{law_value}
use Rattle.alg_tables.proofs.laws.dividing_keeps_values.Goals as goal

pub returns-clause-value : goal.returns-clause-value
returns-clause-value c = law_value

pub returns-clause-apart : goal.returns-clause-apart
returns-clause-apart c = unread_stays
