use Rattle.std.proofs.Common.{◌≡◌, ◌++◌, take}
use Rattle.blif_models.specs.Files.{lines_at}
use Rattle.blif_models.specs.Makings.{part_names}
use Rattle.blif_models.proofs.mentions.add_part_names.Given as goal

abbrev pub invariant-loop-line : goal.invariant-loop-line
invariant-loop-line l = l.names ≡ l.fn.names ++ part_names (lines_at l.text (take l.line-index l.lines))
