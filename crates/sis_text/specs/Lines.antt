-- The logical lines of a text: comments cut, lines joined, words as spans of the text. Source:
-- "Berkeley Logic Interchange Format (BLIF)", appendix of the SIS report (UCB/ERL M92/41): `#`
-- begins a comment, a `\` at the end of a line joins the next one.
use Rattle.std.specs.Prelude.{ℕ, ◌+◌, ◌-◌, ◌==◌, not, Bool, true, false, List, [], ◌∷◌, ◌++◌, length, take, if◌then◌else◌}
use Rattle.std.specs.List.{take_while, suffix_len, filter}
use Rattle.sis_base.specs.Written.{ends_open}
use Rattle.sis_text.specs.declared.places.Span.{Span}
use Rattle.sis_text.specs.declared.places.Line.{Line}
use Rattle.sis_text.specs.Words.{bytes_at, words_from, parts_from}

-- the physical lines: split at byte 10, numbered from 1 in order
abbrev pub physical_lines : List ℕ → List Span
physical_lines source = parts_from 10 0 true source

-- the bytes before the first `#`
unfoldable pub cut_comment : List ℕ → List ℕ
cut_comment line = take_while (λ byte. not (byte == 35)) line

-- a text without the carriage returns at its end
unfoldable pub trim_returns : List ℕ → List ℕ
trim_returns text = take (length text - suffix_len (λ byte. byte == 13) text) text

-- what is kept of a physical line
abbrev pub content : List ℕ → List ℕ
content line = trim_returns (cut_comment line)

-- a text without a `\` at its end, which joins the next line
unfoldable pub cut_joint : List ℕ → List ℕ
cut_joint text = if ends_open text then take (length text - 1) text else text

-- the words of a line of this number, put before those of the first of the lines
unfoldable pub prepend : ℕ → List Span → List Line → List Line
prepend number words [] = record { number = number; words = words } ∷ []
prepend number words (line ∷ lines) = record { number = number; words = words ++ line.words } ∷ lines

-- the words of a physical line
unfoldable pub words_at : List ℕ → Span → List Span
words_at source line = words_from line.place true (cut_joint (content (bytes_at source line)))

-- physical lines, numbered from `number` on, as logical ones: an open line takes the words of the
-- next one, and keeps its own number
unfoldable pub join_lines : List ℕ → ℕ → List Span → List Line
join_lines source number [] = []
join_lines source number (line ∷ lines) =
    if ends_open (content (bytes_at source line))
    then prepend number (words_at source line) (join_lines source (number + 1) lines)
    else (record { number = number; words = words_at source line } ∷ join_lines source (number + 1) lines)

-- whether a list has an item
abbrev pub not_empty : {A : Type 0} → List A → Bool
not_empty [] = false
not_empty (x ∷ xs) = true

-- whether a line has a word
unfoldable pub has_words : Line → Bool
has_words line = not_empty line.words

-- the logical lines of a text that have words, the words as spans
unfoldable pub lines_of : List ℕ → List Line
lines_of source = filter has_words (join_lines source 1 (physical_lines source))
