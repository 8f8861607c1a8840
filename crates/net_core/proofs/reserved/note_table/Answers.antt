use Rattle.std.proofs.lemmas.Result.{on_ok_weaker}
use Rattle.circuit_model.specs.Names.{has}
use Rattle.net_core.proofs.Noted.{table_noted}
use Rattle.net_core.proofs.reserved.note_table.Goals as goal

pub returns : goal.returns
returns c =
    on_ok_weaker c.note_all.result
    (λ noted other.
    table_noted (has c.args.names.now.keys other) (has c.note.new.names.keys other) (has c.note_all.new.names.keys other) c.args.table.now.output c.args.table.now.inputs c.as_slice.result.now other c.as_slice.ensures
    (c.in_ok-note.ensures other) (noted other))
    c.note_all.ensures
