-- The numbers that a walk over vertices has seen. Source: the project's own.
use Rattle.std.specs.Prelude.{ℕ, ◌||◌, ◌==◌, nat_lt, List, [], ◌∷◌, ◌++◌, if◌then◌else◌}
use Rattle.std.specs.List.{list_any}

-- the numbers, followed by one more unless it is a constant's or among them
abbrev pub with_number : List ℕ → ℕ → List ℕ
with_number seen n = if nat_lt n 2 || list_any (λ m. n == m) seen then seen else seen ++ n ∷ []
