use Rattle.std.proofs.Common.{◌≡◌, ◌++◌, take}
use Rattle.blif_lines.specs.Reader.{clocks_in}
use Rattle.blif_models.specs.Files.{lines_at}
use Rattle.blif_models.proofs.first_model.add_clocks.Given as goal

abbrev pub invariant-loop-line : goal.invariant-loop-line
invariant-loop-line l = l.names ≡ l.fn.names ++ clocks_in (lines_at l.text (take l.line-index l.lines))
