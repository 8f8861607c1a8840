use Rattle.std.proofs.Common.{sym, ap, ◌∙◌, subst}
use Rattle.circuit_model.specs.Soundness.{IsSound}
use Rattle.circuit_model.specs.declared.circuit.Circuit.{Circuit}
use Rattle.circuit_laws.specs.Edits.{with_tables}
use Rattle.net_core.specs.Places.{present}
use Rattle.net_work.specs.Placed.{circuit_of}
use Rattle.net_work.proofs.Standing.{standing_present}
use Rattle.net_work.proofs.work.WorkingNetwork.into_network.Goals as goal

pub from_parts-requires-clause-sound : goal.from_parts-requires-clause-sound
from_parts-requires-clause-sound g c =
    subst IsSound
    (sym (ap (λ (circuit : Circuit). with_tables circuit (present c.self.inside.slots.items)) c.into_circuit.ensures
    ∙ (ap (with_tables c.self.inside.frame) (sym (standing_present c.self.inside.slots.items)) ∙ ap circuit_of c.self.view_is))) c.requires

pub returns : goal.returns
returns g c =
    c.from_parts.ensures
    ∙ (ap (λ (circuit : Circuit). with_tables circuit (present c.self.inside.slots.items)) c.into_circuit.ensures
    ∙ (ap (with_tables c.self.inside.frame) (sym (standing_present c.self.inside.slots.items)) ∙ ap circuit_of c.self.view_is))
