use Rattle.circuit_checks.proofs.Naming.{alike_more}
use Rattle.circuit_checks.proofs.name_set.NameSet.of_names.Goals as goal

pub loop-name-preserved : goal.loop-name-preserved
loop-name-preserved c =
    alike_more c.args.names.now c.loop-name.name-index c.name-item.result c.loop-name.set c.add.new.self c.loop-name-test.true c.name-item.is
    c.loop-name.invariant c.in_ok-_added.ensures.names
