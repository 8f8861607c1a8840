-- The codes of states. Source: De Micheli, "Synthesis and Optimization of Digital Circuits",
-- chapter 9 (state encoding): binary codes of the least length, and one-hot codes, which have one
-- bit for each state. That the binary code of a state is its number, the lowest bit first, is the
-- project's own.
use Rattle.std.specs.Prelude.{ℕ, zero, suc, ◌+◌, ◌^◌, ◌==◌, nat_le, Bool, List, [], ◌∷◌, map, length, if◌then◌else◌}
use Rattle.std.specs.Int.{bit_at}
use Rattle.std.specs.List.{range_with_len}
use Rattle.circuit_model.specs.declared.machine.Machine.{Machine}
use Rattle.state_code.specs.declared.codes.Style.{Style}
use Rattle.state_code.specs.declared.codes.Style.TheVariants.{Natural, OneHot}
use Rattle.state_code.specs.declared.codes.Code.{Code}

-- the least of `bits` to `bits + more` bits that give so many different codes; `bits + more` if
-- none is enough
unfoldable pub least_from : ℕ → ℕ → ℕ → ℕ
least_from zero bits count = bits
least_from (suc more) bits count =
    if nat_le count (2 ^ bits) then bits else least_from more (bits + 1) count

-- the least number of bits that give so many different codes; as many bits as there are codes are
-- always enough
abbrev pub least_bits : ℕ → ℕ
least_bits count = least_from count 0 count

-- how many bits the codes of `states` states have
abbrev pub code_width : Style → ℕ → ℕ
code_width Natural states = least_bits states
code_width OneHot states = states

-- a bit of the code of a state, by the state's number: that bit of the number, or whether the bit
-- is the state's own
abbrev pub code_bit : Style → ℕ → ℕ → Bool
code_bit Natural state bit = bit_at state bit == 1
code_bit OneHot state bit = state == bit

-- the code of a state
abbrev pub code_of : Style → ℕ → ℕ → List Bool
code_of style width state = map (code_bit style state) (range_with_len 0 width)

-- states with their codes, in order; the first has number `state`
unfoldable pub codes_from : Style → ℕ → ℕ → List (List ℕ) → List Code
codes_from style width state [] = []
codes_from style width state (name ∷ names) =
    record { state = name; bits = code_of style width state }
    ∷ codes_from style width (state + 1) names

-- how many bits the codes of a machine's states have
abbrev pub width_of : Style → Machine → ℕ
width_of style machine = code_width style (length machine.states)

-- the number of inputs and state bits
abbrev pub leaf_count : Style → Machine → ℕ
leaf_count style machine = length machine.inputs + width_of style machine

-- the states of a machine with their codes, in order
abbrev pub codes_of : Style → Machine → List Code
codes_of style machine = codes_from style (width_of style machine) 0 machine.states
