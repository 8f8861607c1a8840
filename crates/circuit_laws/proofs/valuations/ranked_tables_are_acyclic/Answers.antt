use Rattle.circuit_laws.proofs.Ranks.{rank_acyclic}
use Rattle.circuit_laws.proofs.valuations.ranked_tables_are_acyclic.Goals as goal

pub returns : goal.returns
returns c = rank_acyclic
