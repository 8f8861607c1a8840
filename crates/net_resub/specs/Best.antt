-- Which division is best: that which saves most, of several the one of the first table, and for
-- that table by the first one. No public clause needs these definitions. Source: Brayton, Rudell,
-- Sangiovanni-Vincentelli and Wang, "MIS: A Multiple-Level Logic Optimization System" (1987). The
-- order among divisions that save as much is the project's own.
use Rattle.std.specs.Prelude.{◌≡◌, ◌⊎◌, ℕ, ◌<◌, ◌≤◌, Bool, if◌then◌else◌, Option, Some, None, List, length}
use Rattle.circuit_model.specs.declared.circuit.Table.{Table}
use Rattle.circuit_checks.specs.Graphs.{leads}
use Rattle.net_resub.specs.Divisions.{Savings, saving_in}
use Rattle.net_resub.specs.Pairs.{saving_at}
use Rattle.net_resub.specs.Reaching.{graph_of}
use Rattle.net_resub.specs.declared.divisions.Division.{Division}

-- whether the table at an index depends, in a step or more, on that at another one
abbrev pub is_led : List (Option Table) → ℕ → ℕ → Bool
is_led slots from to = leads (graph_of slots) (length (graph_of slots)) from to

-- the value of a division that may be made is what it saves, that of any other one is 0
unfoldable pub worth_at : List (Option Table) → ℕ → ℕ → ℕ
worth_at slots place by = if is_led slots by place then 0 else saving_at slots place by

-- a pair of indices comes before a division
abbrev pub IsAhead : ℕ → ℕ → Division → Type 0
IsAhead place by division = (place < division.place) ⊎ ((place ≡ division.place) × (by < division.by))

-- the value of a division is above 0, no value is greater, and no division of the same value comes
-- before it
pub record IsFirst (worths : Savings) (division : Division) : Type 0 where
  pub saves : 0 < saving_in worths division
  pub most : (place by : ℕ) → worths place by ≤ saving_in worths division
  pub first : (place by : ℕ) → worths place by ≡ saving_in worths division → IsAhead place by division → ⊥

-- the best division, if a value is above 0
abbrev pub IsBest : Savings → Option Division → Type 0
IsBest worths None = (place by : ℕ) → worths place by ≡ 0
IsBest worths (Some division) = IsFirst worths division
