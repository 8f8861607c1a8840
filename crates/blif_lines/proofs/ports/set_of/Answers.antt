use Rattle.std.proofs.Common.{◌∙◌, ap}
use Rattle.circuit_checks.specs.Sets.{with_name}
use Rattle.circuit_checks.proofs.Naming.{alike_more}
use Rattle.blif_lines.proofs.ports.set_of.Goals as goal

pub loop-name-preserved : goal.loop-name-preserved
loop-name-preserved c =
    alike_more c.args.names.now c.loop-name.name-index c.name-item.result c.loop-name.set.keys c.add.new.set.keys c.loop-name-test.true c.name-item.is
    c.loop-name.invariant (c.in_ok-_added.ensures.names ∙ ap (with_name c.loop-name.set.keys) c.in_ok-copy.ensures)
