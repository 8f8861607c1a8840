use Rattle.std.proofs.Common.{Bool, ◌||◌, List, sym, ap, ◌∙◌}
use Rattle.std.proofs.Math.Bool.{or_comm}
use Rattle.circuit_model.specs.Names.{has}
use Rattle.circuit_model.specs.Soundness.{outputs_of}
use Rattle.circuit_model.specs.declared.circuit.Table.{Table}
use Rattle.net_core.specs.Fresh.{reserved_by}
use Rattle.net_core.proofs.Noted.{used_split}
use Rattle.map_net.proofs.naming.names_used.Goals as goal

pub returns : goal.returns
returns c = λ name.
    let reserved = has (reserved_by c.args.circuit.now) name in
    c.in_ok-note_outputs.ensures name
    ∙ (ap (λ (b : Bool). b || has (outputs_of c.as_slice.result.now) name)
    (c.in_ok-names.ensures name)
    ∙ (ap (λ (tables : List Table). reserved || has (outputs_of tables) name) c.as_slice.ensures
    ∙ (or_comm reserved (has (outputs_of c.args.circuit.now.tables) name)
    ∙ sym (used_split c.args.circuit.now c.args.circuit.now.tables name))))
