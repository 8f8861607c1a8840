use Rattle.std.proofs.Common.{List, not, ap, ◌∙◌}
use Rattle.std.specs.List.{count_by}
use Rattle.circuit_model.specs.Names.{has}
use Rattle.circuit_model.specs.Soundness.{outputs_of}
use Rattle.circuit_model.specs.declared.circuit.Table.{Table}
use Rattle.net_sweep.proofs.Finds.{count_same, count_present}
use Rattle.net_sweep.proofs.counting.count_undriven.Goals as goal

pub returns : goal.returns
returns g c =
    c.count_others-count.ensures
    ∙ (count_present (λ name. not (has c.in_ok-driven.driven.keys name)) c.entries.result.now
    ∙ (ap (λ (tables : List Table). count_by (λ name. not (has c.in_ok-driven.driven.keys name))
    (outputs_of tables)) c.entries.ensures.tables
    ∙ count_same (λ name. not (has c.in_ok-driven.driven.keys name))
    (λ name. not (has (outputs_of c.args.tables.now) name))
    (λ name. ap not (c.in_ok-driven.ensures name)) (outputs_of c.args.network.now.tables)))
