use Rattle.std.proofs.Common.{◌∙◌, sym}
use Rattle.circuit_checks.proofs.Falling.{not_cyclic}
use Rattle.circuit_checks.proofs.graph_cycle.is_cyclic.Goals as goal

pub returns-then-not-stays : goal.returns-then-not-stays
returns-then-not-stays c =
    sym (not_cyclic c.args.graph.now c.requires.graph c.args.labels.now c.args.place (sym c.requires.ordered ∙ c.if-ordered.true) (sym c.stays.ensures ∙ c.if-not-stays.true))
