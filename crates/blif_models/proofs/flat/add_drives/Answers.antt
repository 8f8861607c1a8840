use Rattle.std.proofs.Common.{option_copied}
use Rattle.blif_models.proofs.Controls.{drives_begin, drives_added}
use Rattle.blif_models.proofs.flat.add_drives.Goals as goal

pub loop-line-init : goal.loop-line-init
loop-line-init c = drives_begin (option_copied c.args.library) c.args.set.now.keys

pub loop-line-preserved : goal.loop-line-preserved
loop-line-preserved c =
    drives_added (option_copied c.args.library) c.args.lines.now c.loop-line.line-index c.line-item.result c.args.set.now.keys c.loop-line.set.keys c.add_driven.new.set.keys c.loop-line-test.true c.line-item.is
    c.in_ok-add_driven.ensures c.loop-line.invariant
