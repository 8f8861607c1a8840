-- The text of an expression: its words, its pins, its tokens, its depth. Source: the genlib format
-- of SIS (UCB/ERL M92/41). Spaces, tabs and line ends separate words; so does each of the marks ! *
-- + ( ) ' ; = #, which is a word of its own. Any other word is a name or the constant CONST0 or
-- CONST1.
use Rattle.std.specs.Prelude.{ℕ, ◌+◌, ◌-◌, ◌==◌, ◌&&◌, ◌||◌, not, max, Bool, true, false, if◌then◌else◌, Option, Some, None, List, [], ◌∷◌, ◌++◌, map, option_to_list, bytes_eq, codes}
use Rattle.std.specs.List.{take_while, filter, position_or_len}
use Rattle.sis_base.specs.Written.{is_blank}
use Rattle.circuit_tables.specs.Folding.{each_once}
use Rattle.genlib_expr.specs.declared.token.Token.{Token}
use Rattle.genlib_expr.specs.declared.token.Token.TheVariants.{Constant, Name, Bang, Quote, Star, Plus, Open, Close, Other}

-- the marks
abbrev pub is_mark : ℕ → Bool
is_mark byte =
    byte == 33 || byte == 35 || byte == 39 || byte == 40 || byte == 41 || byte == 42 || byte == 43 || byte == 59 || byte == 61

-- the bytes of names
abbrev pub is_name_byte : ℕ → Bool
is_name_byte byte = not (is_blank byte || byte == 10 || is_mark byte)

-- the word that begins with the first byte, if one does: a mark, or a name that does not follow
-- another byte of a name; it ends before the next byte that is not one of names
unfoldable pub word_at : Bool → List ℕ → Option (List ℕ)
word_at inside [] = None
word_at inside (byte ∷ rest) =
    if is_mark byte then Some (byte ∷ [])
    else (if is_name_byte byte && not inside then Some (take_while is_name_byte (byte ∷ rest)) else None)

-- the words of a text; `inside` says whether a byte of a name precedes it
unfoldable pub words_from : Bool → List ℕ → List (List ℕ)
words_from inside [] = []
words_from inside (byte ∷ rest) = option_to_list (word_at inside (byte ∷ rest)) ++ words_from (is_name_byte byte) rest

-- the words of an expression
abbrev pub words_of : List ℕ → List (List ℕ)
words_of text = words_from false text

-- the token of a mark; none for another byte
unfoldable pub mark_token : ℕ → Option Token
mark_token byte =
    if byte == 33 then Some Bang
    else (if byte == 39 then Some Quote
    else (if byte == 42 then Some Star
    else (if byte == 43 then Some Plus
    else (if byte == 40 then Some Open
    else (if byte == 41 then Some Close
    else (if is_mark byte then Some Other else None))))))

-- the token of a constant; none for another word
unfoldable pub constant_token : List ℕ → Option Token
constant_token word =
    if bytes_eq word (codes "CONST0") then Some (Constant false)
    else (if bytes_eq word (codes "CONST1") then Some (Constant true) else None)

-- the token of a word that is not a name; none for a name
unfoldable pub fixed_token : List ℕ → Option Token
fixed_token (byte ∷ []) = mark_token byte
fixed_token word = constant_token word

abbrev pub is_none : Option Token → Bool
is_none None = true
is_none (Some token) = false

-- whether a word is a name
abbrev pub is_name : List ℕ → Bool
is_name word = is_none (fixed_token word)

-- the pins of an expression: its names, each once, in order of first mention
unfoldable pub pins_in : List (List ℕ) → List (List ℕ)
pins_in words = each_once (filter is_name words)

abbrev pub pins_of : List ℕ → List (List ℕ)
pins_of text = pins_in (words_of text)

-- the token of a word: a name becomes its index among the pins
abbrev pub placed : List (List ℕ) → List ℕ → Option Token → Token
placed pins word None = Name (position_or_len (bytes_eq word) pins)
placed pins word (Some token) = token

unfoldable pub token_of : List (List ℕ) → List ℕ → Token
token_of pins word = placed pins word (fixed_token word)

-- the tokens of an expression
unfoldable pub tokens_in : List (List ℕ) → List Token
tokens_in words = map (token_of (pins_in words)) words

abbrev pub tokens_of : List ℕ → List Token
tokens_of text = tokens_in (words_of text)

-- how many parentheses are open after a token
abbrev pub level_behind : ℕ → Token → ℕ
level_behind level Open = level + 1
level_behind level Close = level - 1
level_behind level token = level

-- the greatest number of parentheses that are open at once, from so many on
unfoldable pub depth_from : ℕ → List Token → ℕ
depth_from level [] = level
depth_from level (token ∷ tokens) = max level (depth_from (level_behind level token) tokens)

-- the depth of an expression
abbrev pub depth_of : List ℕ → ℕ
depth_of text = depth_from 0 (tokens_of text)
