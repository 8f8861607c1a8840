use Rattle.std.proofs.Common.{◌∙◌, ap, map, List, ℕ, Option}
use Rattle.std.specs.List.{filter_map}
use Rattle.circuit_model.specs.declared.circuit.Table.{Table}
use Rattle.circuit_checks.specs.Sets.{graph_of}
use Rattle.circuit_checks.proofs.cycle.graph_of.Goals as goal

pub returns : goal.returns
unfolding graph_of
returns c =
    c.in_ok-graph.ensures
    ∙ ap (λ (places : List ℕ → Option ℕ). map (λ (table : Table). filter_map places table.inputs) c.args.tables.now) c.in_ok-firsts.ensures
