use Rattle.std.proofs.Common.{List, ap, ◌∙◌}
use Rattle.circuit_model.specs.Names.{all_different}
use Rattle.circuit_model.specs.Soundness.{outputs_of}
use Rattle.circuit_model.specs.declared.circuit.Table.{Table}
use Rattle.net_core.proofs.Removals.{tables_differ}
use Rattle.net_core.proofs.network.Network.from_circuit.Goals as goal

pub tables_from-requires-clause-distinct : goal.tables_from-requires-clause-distinct
tables_from-requires-clause-distinct g c =
    ap (λ (ts : List Table). all_different (outputs_of ts)) (c.into_vec.ensures ∙ c.replace-written.ensures.value)
    ∙ tables_differ c.args.circuit c.requires

pub with-requires : goal.with-requires
with-requires g c =
    rw (
      c.into_it.ensures,
      c.in_ok-tables.ensures,
      c.into_vec.ensures,
      c.replace-written.ensures.value,
    ) c.requires
