use Rattle.blif_models.proofs.LineNames.{more_part}
use Rattle.blif_models.proofs.mentions.add_part_names.Goals as goal

pub loop-line-preserved : goal.loop-line-preserved
loop-line-preserved c =
    more_part c.args.text.now c.args.lines.now c.loop-line.line-index c.line-item.result c.args.names.now c.loop-line.names c.add_part_line.new.names c.loop-line-test.true c.line-item.is c.in_ok-add_part_line.ensures
    c.loop-line.invariant
