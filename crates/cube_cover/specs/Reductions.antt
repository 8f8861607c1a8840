-- When a list of rows may replace another in the search for a point that no row has. No public
-- clause needs this definition. Source: Brayton et al., "Logic Minimization Algorithms for VLSI
-- Synthesis" (the tautology test, unate reduction).
use Rattle.std.specs.Prelude.{◌↔◌, length, Bool, Option, List}
use Rattle.sis_base.specs.Rows.{HasWidth}
use Rattle.cube_cover.specs.Covers.{IsCovered}

-- the new rows have the same width, and cover each point of the given row exactly if the old rows
-- do
pub record IsUnateReduction (given : List (Option Bool)) (rows made : List (List (Option Bool))) : Type 0 where
  pub widths : HasWidth (length given) made
  pub answer : IsCovered given made ↔ IsCovered given rows
