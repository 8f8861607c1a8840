-- Counts of what went wrong outside, as an object keeps them in 64 bits. Source: the project's own
-- rule for the outside; a count saturates at the greatest number of 64 bits.
use Rattle.std.specs.Prelude.{ℕ, ◌+◌, ◌-◌, ◌^◌, ◌≤◌, min}

-- one more, but no more than fits 64 bits
abbrev pub one_more : ℕ → ℕ
one_more count = min (count + 1) (2 ^ 64 - 1)

-- the count is greater than before, or is the greatest number of 64 bits; it has not fallen
abbrev pub Rose : ℕ → ℕ → Type 0
Rose before now = (before ≤ now) × (one_more before ≤ now)
