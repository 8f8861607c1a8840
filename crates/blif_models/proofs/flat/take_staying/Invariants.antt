use Rattle.std.proofs.Common.{◌≡◌, drop, option_copied}
use Rattle.blif_lines.specs.Steps.{take_entries}
use Rattle.blif_models.specs.Tables.{staying}
use Rattle.blif_models.proofs.flat.take_staying.Given as goal

abbrev pub invariant-loop-line : goal.invariant-loop-line
invariant-loop-line l =
    take_entries (option_copied l.library) l.draft (staying (drop l.line-index l.lines)) ≡ take_entries (option_copied l.library) l.fn.draft (staying l.lines)
