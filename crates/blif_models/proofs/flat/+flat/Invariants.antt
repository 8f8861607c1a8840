use Rattle.std.proofs.Common.{◌≡◌, ◌≤◌, ◌+◌, ◌-◌, ◌++◌, drop}
use Rattle.blif_models.specs.Files.{lines_at}
use Rattle.blif_models.specs.Flat.{flat_lines}
use Rattle.blif_models.specs.Tables.{lines_from}
use Rattle.blif_models.specs.Contexts.{library_in, models_in, text_in}
use Rattle.blif_models.proofs.flat.+flat.Given as goal

abbrev pub decreases-add_flat : goal.decreases-add_flat
decreases-add_flat l = l.depth + l.depth + 1

abbrev pub decreases-flat_lines : goal.decreases-flat_lines
decreases-flat_lines l = l.depth + l.depth

abbrev pub invariant-flat_lines-loop-line : goal.invariant-flat_lines-loop-line
invariant-flat_lines-loop-line l =
    (l.place ≤ l.line-index)
    × (l.flat.items ++ lines_from (library_in l.models) (models_in l.models) (l.depth - 1) l.place (drop l.line-index (lines_at (text_in l.models) l.lines))
    ≡ flat_lines (library_in l.models) (models_in l.models) l.depth (lines_at (text_in l.models) l.lines))
