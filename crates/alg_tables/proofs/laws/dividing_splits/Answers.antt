use Rattle.alg_tables.proofs.CoverTables.{law_split}
use Rattle.alg_tables.proofs.laws.dividing_splits.Goals as goal

pub returns : goal.returns
returns c = law_split
