-- Pseudo-random draws by a linear congruential generator. Source: Knuth, "The Art of Computer
-- Programming", volume 2, section 3.2.1: each number is the previous one times a multiplier, plus
-- an increment, to a modulus. Multiplier and increment are those of Knuth's MMIX, and the modulus
-- is 2^64. That a draw leaves out the low 33 bits of its number, which are the least random ones,
-- is the project's own.
use Rattle.std.specs.Prelude.{ℕ, ◌+◌, ◌*◌, ◌/◌, ◌%◌, ◌^◌}

abbrev pub multiplier : ℕ
multiplier = 6364136223846793005

abbrev pub increment : ℕ
increment = 1442695040888963407

-- the next number
unfoldable pub next : ℕ → ℕ
next number = (number * multiplier + increment) % 2 ^ 64

-- the number below a bound that is drawn from a number
unfoldable pub drawn : ℕ → ℕ → ℕ
drawn number bound = number / 2 ^ 33 % bound
