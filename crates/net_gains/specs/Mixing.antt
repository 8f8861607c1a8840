-- The numbers of a divisor mixed into two words, by which it is hashed. No public clause needs
-- these definitions.
use Rattle.std.specs.Prelude.{◌≡◌, ◌+◌, ◌*◌, ◌%◌, ◌^◌, ◌++◌, ℕ, true, List, [], ◌∷◌, nat_eq}
use Rattle.std.specs.Hash as fed
use Rattle.std.specs.Hash.{HashWrites, Alike, same_Alike, on_Alike, and-Alike}
use Rattle.std.specs.Cmp.Lexicographic.{pointwise, bytes_decides}
use Rattle.net_gains.specs.Orders.{divisor_eq}
use Rattle.net_gains.specs.declared.divisor.Divisor.{Divisor}

-- the odd number nearest to 2^64 divided by the golden ratio: each number changes all higher bits
abbrev pub multiplier : ℕ
multiplier = 0x9e37_79b9_7f4a_7c15

-- a number mixed with those of a list, one after the other
unfoldable pub mixed_with : ℕ → List ℕ → ℕ
mixed_with made [] = made
mixed_with made (number ∷ numbers) = mixed_with (((made * multiplier) % 2 ^ 64 + number) % 2 ^ 64) numbers

-- what is hashed of a cube, and of a divisor
abbrev pub cube_input : List ℕ → HashWrites
cube_input numbers = fed.u64 (mixed_with 1 numbers)

abbrev pub divisor_input : Divisor → HashWrites
divisor_input divisor = cube_input divisor.first ++ cube_input divisor.second

cubes_alike : Alike (pointwise nat_eq) cube_input
cubes_alike = same_Alike cube_input bytes_decides

pub divisors_alike : (one other : Divisor) → divisor_eq one other ≡ true → divisor_input one ≡ divisor_input other
divisors_alike = (and-Alike (on_Alike (λ (divisor : Divisor). divisor.first) cubes_alike) (on_Alike (λ (divisor : Divisor). divisor.second) cubes_alike)).fed
