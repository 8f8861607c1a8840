use Rattle.net_wires.proofs.Putting.{undriven_more}
use Rattle.net_wires.proofs.leaves.add_undriven.Goals as goal

pub loop-name-preserved : goal.loop-name-preserved
loop-name-preserved c =
    undriven_more c.args.driven.now.keys c.args.more.now c.args.names.now.keys c.loop-name.names.keys c.add_wanted.new.names.keys c.loop-name.name-index c.name-item.result c.is_among.result
    c.loop-name-test.true c.name-item.is c.is_among.ensures c.loop-name.invariant c.in_ok-add_wanted.ensures
