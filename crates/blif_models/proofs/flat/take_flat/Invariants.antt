use Rattle.std.proofs.Common.{◌≡◌, ◌≤◌, ◌+◌, drop}
use Rattle.blif_lines.specs.Steps.{take_entries}
use Rattle.blif_models.specs.Files.{lines_at}
use Rattle.blif_models.specs.Flat.{flat_lines}
use Rattle.blif_models.specs.Tables.{lines_from, staying}
use Rattle.blif_models.specs.Contexts.{library_in, models_in, text_in}
use Rattle.blif_models.specs.declared.limits.TheConstants.{MAX_DEPTH}
use Rattle.blif_models.proofs.flat.take_flat.Given as goal

abbrev pub invariant-loop-line : goal.invariant-loop-line
invariant-loop-line l =
    (l.place ≤ l.line-index)
    × (take_entries (library_in l.models) l.draft (staying (lines_from (library_in l.models) (models_in l.models) MAX_DEPTH l.place (drop l.line-index (lines_at (text_in l.models) l.lines))))
    ≡ take_entries (library_in l.models) l.fn.draft (staying (flat_lines (library_in l.models) (models_in l.models) (MAX_DEPTH + 1) (lines_at (text_in l.models) l.lines))))
