use Rattle.std.proofs.Common.{option_copied}
use Rattle.line_words.specs.LineWords.{texts}
use Rattle.blif_lines.specs.Reader.{drives_in}
use Rattle.blif_models.proofs.Controls.{controls_all}
use Rattle.blif_models.proofs.flat.controls_of.Goals as goal

pub returns : goal.returns
returns c =
    controls_all c.new-set.result.keys c.add_inputs.new.set.keys c.add_drives.new.set.keys (texts c.args.inputs.now) (drives_in (option_copied c.args.library) c.args.lines.now) c.new-set.ensures.empty c.in_ok-add_inputs.ensures
    c.in_ok-add_drives.ensures
