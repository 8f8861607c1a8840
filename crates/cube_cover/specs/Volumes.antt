-- An upper bound on the points that the rows of a cover contain, in shares of which 2^63 are all
-- points; each row's are rounded up to a whole number. No public clause needs these definitions.
-- Source: Brayton et al., "Logic Minimization Algorithms for VLSI Synthesis" (the tautology test,
-- vertex counts).
use Rattle.std.specs.Prelude.{ℕ, ◌+◌, ◌-◌, ◌^◌, Bool, Option, List, [], ◌∷◌}
use Rattle.cube_cover.specs.Literals.{row_literals}

-- the shares of all rows together: a row of k literals has one point in 2^k, so 2^63 / 2^k shares,
-- and at least one
unfoldable pub cover_shares : List (List (Option Bool)) → ℕ
cover_shares [] = 0
cover_shares (row ∷ rows) = 2 ^ (63 - row_literals row) + cover_shares rows
