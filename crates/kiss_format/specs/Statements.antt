-- What a logical line of a KISS2 table says by itself, whatever the lines before it. Source: SIS
-- report (UCB/ERL M92/41), KISS2 tables: `.i` and `.o` give the numbers of inputs and outputs, `.p`
-- and `.s` those of rows and states, which the rows tell, `.r` the reset state; a row is an input
-- cube, a current state, a next state and outputs. The limits are the project's own.
use Rattle.std.specs.Prelude.{ℕ, Bool, not, ◌&&◌, nat_le, nat_lt, Option, Some, None, List, [], ◌∷◌, length, if◌then◌else◌}
use Rattle.std.specs.List.{list_all, filter}
use Rattle.sis_text.specs.Words.{begins_with}
use Rattle.sis_text.specs.Decimals.{is_digit, number_of}
use Rattle.line_words.specs.LineWords.{first_word, other_words, is_character}
use Rattle.circuit_model.specs.MachineSoundness.{is_any}
use Rattle.kiss_format.specs.Keywords.{keyword_of}
use Rattle.kiss_format.specs.declared.keyword.Keyword.{Keyword}
use Rattle.kiss_format.specs.declared.keyword.Keyword.TheVariants as kind
use Rattle.sis_base.specs.declared.limits.TheConstants.{MAX_PORTS}

-- a statement: a number of inputs or of outputs, the reset state, a row, nothing that the rows do
-- not tell; or words that are no row, or no header
pub data Said : Type 0 where
  Inputs : (count : ℕ) → Said
  Outputs : (count : ℕ) → Said
  Reset : (name : List ℕ) → Said
  Row : (input current next output : List ℕ) → Said
  Nothing : Said
  NoRow : Said
  NoHeader : Said

-- whether a word is a numeral of one to four digits, the first not 0
abbrev pub is_numeral : List ℕ → Bool
is_numeral word = list_all is_digit word && nat_lt 0 (length word) && nat_le (length word) 4 && not (begins_with 48 word)

-- the number from 1 to `MAX_PORTS` that a word denotes, without a leading zero
unfoldable pub count_of : List ℕ → Option ℕ
count_of word = if is_numeral word && nat_le (number_of word) MAX_PORTS then Some (number_of word) else None

-- the number of a single word
abbrev pub count_in : List (List ℕ) → Option ℕ
count_in (word ∷ []) = count_of word
count_in words = None

-- a statement of a number, if there is one
abbrev pub of_count : (ℕ → Said) → Option ℕ → Said
of_count statement None = NoHeader
of_count statement (Some count) = statement count

-- the statement of a line of one word that the rows tell
abbrev pub of_word : List (List ℕ) → Said
of_word (word ∷ []) = Nothing
of_word words = NoHeader

-- the statement of a line of a reset state
abbrev pub of_reset : List (List ℕ) → Said
of_reset (word ∷ []) = Reset word
of_reset words = NoHeader

-- the statement of the words of a row
abbrev pub of_row : List (List ℕ) → Said
of_row (input ∷ current ∷ next ∷ output ∷ []) = if list_all is_character input && list_all is_character output then Row input current next output else NoRow
of_row words = NoRow

-- the statement of a kind of line: its words after the first, all words
abbrev pub said_as : Keyword → List (List ℕ) → List (List ℕ) → Said
said_as kind.Inputs words whole = of_count Inputs (count_in words)
said_as kind.Outputs words whole = of_count Outputs (count_in words)
said_as kind.Products words whole = of_word words
said_as kind.States words whole = of_word words
said_as kind.Reset words whole = of_reset words
said_as kind.End words whole = Nothing
said_as kind.Row words whole = of_row whole
said_as kind.Other words whole = NoHeader

-- the statement of a line's words
unfoldable pub said_by : List (List ℕ) → Said
said_by words = said_as (keyword_of (first_word words)) (other_words words) words

-- the states that two words name
abbrev pub named : List ℕ → List ℕ → List (List ℕ)
named current next = filter (λ word. not (is_any word)) (current ∷ next ∷ [])
