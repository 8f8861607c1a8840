-- The names of new signals: a prefix and a number, unless a port has that name. Source: BLIF
-- appendix of the SIS report (UCB/ERL M92/41): signals are known by their names alone, so each new
-- one needs a name of its own. That it is the one of the least free number is the project's own.
use Rattle.std.specs.Prelude.{ℕ, ◌+◌, not, List, ◌++◌, map, take, length, decimal}
use Rattle.std.specs.List.{filter, range_with_len}
use Rattle.circuit_model.specs.Names.{has}

-- a prefix and a number
unfoldable pub numbered : List ℕ → ℕ → List ℕ
numbered prefix number = prefix ++ decimal number

-- the names of a prefix and so many numbers that are not among some names, in order
abbrev pub unused : List ℕ → List (List ℕ) → ℕ → List (List ℕ)
unused prefix used numbers =
    filter (λ name. not (has used name)) (map (numbered prefix) (range_with_len 0 numbers))

-- so many names of a prefix that are not among some names, those of the least numbers, in order;
-- each of these names excludes at most one number, so as many additional numbers are enough
unfoldable pub free_names : List ℕ → List (List ℕ) → ℕ → List (List ℕ)
free_names prefix used count = take count (unused prefix used (count + length used))
