use Rattle.circuit_laws.proofs.Ranks.{acyclic_rank}
use Rattle.circuit_laws.proofs.valuations.acyclic_tables_have_a_rank.Goals as goal

pub returns : goal.returns
returns c = acyclic_rank
