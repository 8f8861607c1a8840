-- The words of a library file, each with the number of its line. Source: the genlib format of SIS
-- (UCB/ERL M92/41): `#` begins a comment that runs to the end of its line; blanks and line ends
-- separate words.
use Rattle.std.specs.Prelude.{ℕ, ◌+◌, ◌==◌, not, List, [], ◌∷◌, ◌++◌, length, drop, map}
use Rattle.std.specs.List.{take_while, slice_split}
use Rattle.sis_text.specs.declared.places.Span.{Span}
use Rattle.sis_text.specs.Words.{bytes_at}
use Rattle.sis_text.specs.Words.{words_of}
use Rattle.genlib_format.specs.declared.words.Lined.{Lined}

-- the bytes before the first mark, and those after it
unfoldable pub before : ℕ → List ℕ → List ℕ
before mark bytes = take_while (λ byte. not (byte == mark)) bytes

unfoldable pub behind : ℕ → List ℕ → List ℕ
behind mark bytes = drop (length (before mark bytes) + 1) bytes

-- a word of a line, by its span
unfoldable pub lined : ℕ → List ℕ → Span → Lined
lined number line span = record { line = number; word = bytes_at line span }

-- the words of one line, without its comment
unfoldable pub line_words : ℕ → List ℕ → List Lined
line_words number line = map (lined number (before 35 line)) (words_of (before 35 line))

-- the words of lines, numbered from `number` on
unfoldable pub words_from : ℕ → List (List ℕ) → List Lined
words_from number [] = []
words_from number (line ∷ lines) = line_words number line ++ words_from (number + 1) lines

-- the words of a file: its lines, split at byte 10, are numbered from 1
unfoldable pub words_in : List ℕ → List Lined
words_in source = words_from 1 (slice_split (λ byte. byte == 10) source)
