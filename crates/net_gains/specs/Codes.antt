-- Numbers for literals of signals, in the order of literals: twice the index of the name among
-- rising names, and one more if the literal is positive.
-- Source: the project's own.
use Rattle.std.specs.Prelude.{ℕ, ◌+◌, ◌*◌, Bool, true, false, List, map, length, nat_lt, bytes_eq}
use Rattle.std.specs.Cmp.Lexicographic.{slice_cmp}
use Rattle.std.specs.List.{list_all, position_or_len}
use Rattle.std.specs.List.Sorted.{IsStrictlySortedBy}
use Rattle.std.specs.Ordering.{nat_cmp}
use Rattle.std.specs.declared.cmp.Ordering.{Ordering}
use Rattle.circuit_model.specs.Names.{has}
use Rattle.cover_names.specs.Literals.{Cube, NamedCover, sorted}
use Rattle.cover_names.specs.declared.literal.Literal.{Literal}
use Rattle.net_gains.specs.declared.codes.Signal.{Signal}

-- names compared byte by byte
abbrev pub name_cmp : List ℕ → List ℕ → Ordering
name_cmp = slice_cmp nat_cmp

-- names that rise, each less than all later ones
abbrev pub AreRising : List (List ℕ) → Type 0
AreRising names = IsStrictlySortedBy name_cmp names

-- names in order, each once
abbrev pub in_order : List (List ℕ) → List (List ℕ)
in_order names = sorted name_cmp names

-- the index of a name, if it is one of them
abbrev pub place_of : List (List ℕ) → List ℕ → ℕ
place_of names name = position_or_len (bytes_eq name) names

-- a bit as a number
abbrev pub bit_number : Bool → ℕ
bit_number true = 1
bit_number false = 0

-- the number of a literal
unfoldable pub code_of : List (List ℕ) → Literal → ℕ
code_of names literal = 2 * place_of names literal.name + bit_number literal.bit

-- the numbers of the two literals of a name
abbrev pub signal_of : List (List ℕ) → List ℕ → Signal
signal_of names name = record { negative = code_of names (record { name = name; bit = false }); positive = code_of names (record { name = name; bit = true }) }

-- the numbers of the literals of a cube, and of the cubes of a cover
abbrev pub codes_of : List (List ℕ) → Cube → List ℕ
codes_of names cube = map (code_of names) cube

abbrev pub coded : List (List ℕ) → NamedCover → List (List ℕ)
coded names cover = map (codes_of names) cover

-- whether all names of a cube are in a list; `is_over` is the same for a cover
abbrev pub is_known : List (List ℕ) → Cube → Bool
is_known names cube = list_all (λ (literal : Literal). has names literal.name) cube

-- whether a number is that of a literal of the names, and whether all numbers of a cube or of a
-- cover are
abbrev pub is_code : List (List ℕ) → ℕ → Bool
is_code names number = nat_lt number (2 * length names)

abbrev pub are_codes : List (List ℕ) → List ℕ → Bool
are_codes names numbers = list_all (is_code names) numbers

abbrev pub are_coded : List (List ℕ) → List (List ℕ) → Bool
are_coded names cubes = list_all (are_codes names) cubes
