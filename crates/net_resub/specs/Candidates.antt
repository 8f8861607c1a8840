-- Which tables may be divided by which so that literals are saved. No public clause needs these
-- definitions. Source: Brayton, Rudell, Sangiovanni-Vincentelli and Wang, "MIS: A Multiple-Level
-- Logic Optimization System" (1987): a divisor's literals are among those of the table that it
-- divides.
use Rattle.std.specs.Prelude.{◌≡◌, ℕ, ◌<◌, ◌==◌, Bool, true, ◌||◌, Option, List}
use Rattle.circuit_model.specs.declared.circuit.Table.{Table}
use Rattle.net_readers.specs.Fanouts.{is_in}
use Rattle.net_resub.specs.Pairs.{saving_at}
use Rattle.net_resub.specs.declared.divisions.Division.{Division}

-- indices include those of all tables by which division of the table at an index saves literals
abbrev pub AreDivisors : List (Option Table) → ℕ → List ℕ → Type 0
AreDivisors slots place places = (by : ℕ) → 0 < saving_at slots place by → is_in places by ≡ true

-- indices include those of all tables whose division by the table at an index saves literals
abbrev pub AreDividends : List (Option Table) → ℕ → List ℕ → Type 0
AreDividends slots by places = (place : ℕ) → 0 < saving_at slots place by → is_in places place ≡ true

-- whether a division is by the table at an index; whether it is by that table or of it
abbrev pub is_by : ℕ → Division → Bool
is_by by division = by == division.by

abbrev pub is_with : ℕ → Division → Bool
is_with place division = (place == division.place) || (place == division.by)
