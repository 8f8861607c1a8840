use Rattle.std.proofs.Common.{Bool, ◌||◌, ◌&&◌, bytes_eq, sym, ap, ◌∙◌}
use Rattle.circuit_model.specs.Names.{has}
use Rattle.net_wires.proofs.Putting.{has_put}
use Rattle.net_wires.proofs.leaves.add_wanted.Goals as goal

pub returns-in_ok-insert_full : goal.returns-in_ok-insert_full
returns-in_ok-insert_full c = λ other.
    has_put c.args.names.now.keys c.insert_full.new.self.keys c.args.name.now c.in_ok-copy.field-0 c.in_ok-copy.ensures c.in_ok-insert_full.ensures.keys other
    ∙ ap (λ (wanted : Bool). has c.args.names.now.keys other || (wanted && bytes_eq other c.args.name.now)) (sym c.if-is_wanted.true)
