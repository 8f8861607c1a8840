use Rattle.std.proofs.Common.{◌∙◌, ℕ, List, sym, subst}
use Rattle.circuit_checks.specs.Graphs.{IsGraph}
use Rattle.blif_models.proofs.ModelGraph.{used_is}
use Rattle.blif_models.proofs.graph.first_recursive.Goals as goal

pub first_cyclic-requires : goal.first_cyclic-requires
first_cyclic-requires c =
    subst (λ (graph : List (List ℕ)). IsGraph graph) (sym (c.as_slice.ensures.value ∙ c.in_ok-graph.ensures)) (used_is c.args.graph.now c.requires.graph)
