use Rattle.std.proofs.Common.{◌∙◌, List, ℕ, ap, sym, subst}
use Rattle.circuit_checks.specs.Graphs.{IsGraph, first_cyclic}
use Rattle.circuit_checks.proofs.Driving.{graph_is}
use Rattle.circuit_checks.proofs.cycle.cyclic_place.Goals as goal

pub first_cyclic-requires : goal.first_cyclic-requires
first_cyclic-requires c =
    subst (λ (graph : List (List ℕ)). IsGraph graph) (sym (c.as_slice.ensures.value ∙ c.in_ok-graph.ensures)) (graph_is c.args.tables.now)

pub returns : goal.returns
returns c = c.in_ok-place.ensures ∙ ap first_cyclic (c.as_slice.ensures.value ∙ c.in_ok-graph.ensures)
