use Rattle.blif_models.specs.Makings.{named_on}
use Rattle.blif_models.proofs.LineNames.{more_names}
use Rattle.blif_models.proofs.mentions.add_lines.Goals as goal

pub loop-line-preserved : goal.loop-line-preserved
loop-line-preserved c =
    more_names (named_on c.args.extent) c.args.text.now c.args.lines.now c.loop-line.line-index c.line-item.result c.args.names.now c.loop-line.names c.add_line.new.names c.loop-line-test.true c.line-item.is c.in_ok-add_line.ensures
    c.loop-line.invariant
