use Rattle.std.proofs.Common.{Some, None}
use Rattle.net_wires.proofs.Searching.{read_of_latch}
use Rattle.net_wires.proofs.Putting.{nothing_read, one_read}
use Rattle.net_wires.proofs.needed.add_held.Goals as goal

pub returns-in-None : goal.returns-in-None
returns-in-None c = nothing_read c.args.names.now.keys _ (read_of_latch c.args.latches.now c.args.name.now None c.requires.differ c.in-None.ensures)

pub returns-in_ok-insert_full-in-Some : goal.returns-in_ok-insert_full-in-Some
returns-in_ok-insert_full-in-Some c =
    one_read c.args.names.now.keys c.insert_full.new.self.keys _ c.in-Some.latch.now.input c.in_ok-copy-in-Some.field-0 c.in_ok-copy-in-Some.ensures
    (read_of_latch c.args.latches.now c.args.name.now (Some c.in-Some.latch.now) c.requires.differ c.in-Some.ensures) c.in_ok-insert_full-in-Some.ensures.keys
