use Rattle.std.proofs.Common.{take, option_copied}
use Rattle.blif_lines.specs.Reader.{drives_in}
use Rattle.blif_models.specs.Tables.{Adds}
use Rattle.blif_models.proofs.flat.add_drives.Given as goal

abbrev pub invariant-loop-line : goal.invariant-loop-line
invariant-loop-line l = Adds l.fn.set.keys l.set.keys (drives_in (option_copied l.library) (take l.line-index l.lines))
