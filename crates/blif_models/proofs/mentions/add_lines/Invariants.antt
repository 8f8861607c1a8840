use Rattle.std.proofs.Common.{◌≡◌, ◌++◌, flat_map, take}
use Rattle.blif_models.specs.Files.{lines_at}
use Rattle.blif_models.specs.Makings.{named_on}
use Rattle.blif_models.proofs.mentions.add_lines.Given as goal

abbrev pub invariant-loop-line : goal.invariant-loop-line
invariant-loop-line l = l.names ≡ l.fn.names ++ flat_map (named_on l.extent) (lines_at l.text (take l.line-index l.lines))
