use Rattle.std.proofs.Common.{◌≡◌, drop, option_copied}
use Rattle.blif_models.specs.Files.{lines_at}
use Rattle.blif_models.specs.Checking.{names_before, check_entries}
use Rattle.blif_models.proofs.checking.check_lines.Given as goal

abbrev pub invariant-loop-line : goal.invariant-loop-line
invariant-loop-line l =
    check_entries (option_copied l.library) (names_before l.file.models l.place) l.draft (drop l.line-index (lines_at l.file.text l.lines))
    ≡ check_entries (option_copied l.library) (names_before l.file.models l.place) l.fn.draft (lines_at l.file.text l.lines)
