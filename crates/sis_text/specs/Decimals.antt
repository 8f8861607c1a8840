-- Decimal numbers as the library files of the mapper write them, in millionths. Source: the genlib
-- format of SIS (UCB/ERL M92/41): areas and delays are decimal numbers. At most nine digits, then a
-- point and at most six digits, or no point; at least one digit in all. So each is a whole number
-- of millionths.
use Rattle.std.specs.Prelude.{ℕ, ◌+◌, ◌-◌, ◌*◌, ◌/◌, ◌%◌, ◌^◌, ◌==◌, ◌&&◌, not, nat_le, nat_lt, Bool, Option, Some, None, List, [], ◌∷◌, ◌++◌, length, map, drop, decimal, if◌then◌else◌}
use Rattle.std.specs.List.{take_while, list_all, fold}

-- a decimal digit
abbrev pub is_digit : ℕ → Bool
is_digit byte = nat_le 48 byte && nat_le byte 57

-- the number that digits denote
unfoldable pub number_of : List ℕ → ℕ
number_of digits = fold (λ number digit. number * 10 + (digit - 48)) 0 digits

-- the bytes before the first point, and those after it
unfoldable pub whole_part : List ℕ → List ℕ
whole_part word = take_while (λ byte. not (byte == 46)) word

unfoldable pub fraction_part : List ℕ → List ℕ
fraction_part word = drop (length (whole_part word) + 1) word

-- both parts are digits, at most nine and six of them, at least one in all
unfoldable pub are_parts : List ℕ → List ℕ → Bool
are_parts whole fraction =
    list_all is_digit whole && list_all is_digit fraction && nat_le (length whole) 9 && nat_le (length fraction) 6
    && nat_lt 0 (length whole + length fraction)

-- the millionths that the parts denote: a digit after the point is worth a tenth of the one before
-- it
unfoldable pub millionths_of : List ℕ → List ℕ → ℕ
millionths_of whole fraction = number_of whole * 1000000 + number_of fraction * 10 ^ (6 - length fraction)

-- the number that a word denotes, in millionths; none if it denotes no number
unfoldable pub decimal_of : List ℕ → Option ℕ
decimal_of word =
    if are_parts (whole_part word) (fraction_part word)
    then Some (millionths_of (whole_part word) (fraction_part word))
    else None

-- the six digits of a number below a million
unfoldable pub six_digits : ℕ → List ℕ
six_digits number = map (λ weight. 48 + number / weight % 10) (100000 ∷ 10000 ∷ 1000 ∷ 100 ∷ 10 ∷ 1 ∷ [])

-- how millionths are written: the whole number, a point, six digits
unfoldable pub decimal_text : ℕ → List ℕ
decimal_text millionths = decimal (millionths / 1000000) ++ 46 ∷ six_digits (millionths % 1000000)
