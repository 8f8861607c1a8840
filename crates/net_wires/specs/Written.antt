-- Written constants. Source: BLIF appendix of the SIS report (UCB/ERL M92/41), `.names`.
use Rattle.std.specs.Prelude.{Bool, true, false, List, [], ◌∷◌}

-- whether there is one row, without characters
abbrev pub is_one_row : {X : Type 0} → List (List X) → Bool
is_one_row ([] ∷ []) = true
is_one_row rows = false
