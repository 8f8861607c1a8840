-- Which covers are the same, and that their order distinguishes exactly covers that differ. Source:
-- Brayton, Rudell, Sangiovanni-Vincentelli and Wang, "MIS: A Multiple-Level Logic Optimization
-- System" (1987): the order is the project's own. No public clause needs it but `cover_eq`.
use Rattle.std.specs.Prelude.{◌≡◌, Bool}
use Rattle.std.specs.Cmp.Lexicographic.{pointwise, lists_ties}
use Rattle.std.specs.Ordering.{eq_by_cmp}
use Rattle.cover_names.specs.Literals.{NamedCover, literal_cmp, cube_cmp, cover_cmp}
use Rattle.cover_names.specs.Orders.{literal_eq, literal_ties}

-- covers of the same cubes
abbrev pub cover_eq : NamedCover → NamedCover → Bool
cover_eq = pointwise (pointwise literal_eq)

pub cover_ties : (one other : NamedCover) → cover_eq one other ≡ eq_by_cmp cover_cmp one other
cover_ties = lists_ties cube_cmp (lists_ties literal_cmp literal_ties)
