use Rattle.circuit_checks.proofs.Ranking.{rank_of, ranked_from_none}
use Rattle.circuit_checks.proofs.graph_laws.acyclic_is_ranked.Goals as goal

pub returns : goal.returns
returns c = λ graph is_graph h. (rank_of graph, ranked_from_none graph is_graph h)
