use Rattle.std.proofs.Common.{List, ◌∙◌, ap, is_some}
use Rattle.circuit_model.specs.Names.{has}
use Rattle.circuit_model.specs.Soundness.{outputs_of}
use Rattle.circuit_model.specs.declared.circuit.Table.{Table}
use Rattle.net_core.proofs.Indexing.{known_name}
use Rattle.net_core.proofs.places.NamedTables.contains.Goals as goal

pub returns : goal.returns
returns g c =
    c.is_some.ensures ∙ (ap is_some c.found_place.ensures
    ∙ (known_name c.self.inside.slots.items _ c.self.invariant.0 c.args.name.now ∙ ap (λ (ts : List Table). has (outputs_of ts) c.args.name.now) c.self.view_is))
