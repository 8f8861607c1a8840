use Rattle.blif_models.proofs.ListedPorts.{listed_more, none_listed}
use Rattle.blif_models.proofs.port_faults.all_listed.Goals as goal

pub loop-line-init : goal.loop-line-init
loop-line-init c = none_listed c.new.result c.new-2.result c.new-3.result c.new.ensures c.new-2.ensures c.new-3.ensures

pub loop-line-preserved : goal.loop-line-preserved
loop-line-preserved c =
    listed_more c.args.text.now c.args.lines.now c.loop-line.line-index c.line-item.result c.loop-line.listed c.add.new.self c.loop-line-test.true c.line-item.is c.loop-line.invariant c.in_ok-add.ensures
