-- The kinds of words that a command may require, and the value of a word of each kind. Source: the
-- SIS manual's command language (UCB/ERL M92/41), where a word that begins with `-` is an option.
-- That numbers are plain decimal digits, and that a word of another kind is a bad option, is this
-- program's choice.
use Rattle.std.specs.Prelude.{ℕ, ◌-◌, ◌^◌, Bool, not, ◌&&◌, nat_le, nat_lt, Option, Some, None, option_map, List, length, drop, ℤ, pos, neg_ℤ, if◌then◌else◌, bytes_eq, codes}
use Rattle.std.specs.Str.{is_utf8}
use Rattle.std.specs.List.{list_all}
use Rattle.sis_text.specs.Words.{begins_with}
use Rattle.sis_text.specs.Decimals.{is_digit, number_of}
use Rattle.sis_script.specs.declared.command.Style.{Style}
use Rattle.sis_script.specs.declared.command.Style.TheVariants as style
use Rattle.sis_script.specs.declared.kinds.Kind.{Kind}
use Rattle.sis_script.specs.declared.kinds.Kind.TheVariants as kind
use Rattle.sis_script.specs.declared.kinds.Value.{Value}
use Rattle.sis_script.specs.declared.kinds.Value.TheVariants as value

-- a word that may name a file: text that does not begin as an option does
abbrev pub is_file_word : List ℕ → Bool
is_file_word word = is_utf8 word && not (begins_with 45 word)

-- one decimal digit or more, and nothing else
abbrev pub are_digits : List ℕ → Bool
are_digits word = nat_lt 0 (length word) && list_all is_digit word

-- the number that digits denote, if it is within these bounds
unfoldable pub number_within : ℕ → ℕ → List ℕ → Option ℕ
number_within least most word =
    if are_digits word && (nat_le least (number_of word) && nat_le (number_of word) most) then Some (number_of word) else None

-- the integer of 32 bits that digits denote, or digits after a `-`
unfoldable pub integer_of : List ℕ → Option ℤ
integer_of word =
    if begins_with 45 word
    then option_map (λ number. neg_ℤ (pos number)) (number_within 0 (2 ^ 31) (drop 1 word))
    else option_map pos (number_within 0 (2 ^ 31 - 1) word)

-- the style of state codes that a word names
abbrev pub style_of : List ℕ → Option Style
style_of word =
    if bytes_eq word (codes "natural") then Some style.Natural
    else if bytes_eq word (codes "onehot") then Some style.OneHot
    else None

-- the value of a word if a word of this kind is required; none if it is of another kind
unfoldable pub value_of : Kind → List ℕ → Option Value
value_of kind.File word = if is_file_word word then Some (value.File word) else None
value_of kind.Name word = Some (value.Name word)
value_of (kind.Number least most) word = option_map (λ number. value.Number number) (number_within least most word)
value_of kind.Integer word = option_map (λ number. value.Integer number) (integer_of word)
value_of kind.NoComplement word = if bytes_eq word (codes "nocomp") then Some value.NoComplement else None
value_of kind.Style word = option_map (λ named. value.Style named) (style_of word)
