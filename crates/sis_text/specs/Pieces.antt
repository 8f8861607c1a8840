-- How a script is split into pieces: at each line end and at each `;`, without comments. No piece
-- continues after a line end. Source: the command scripts of the SIS report (UCB/ERL M92/41):
-- commands are separated by `;` and line ends, `#` begins a comment.
use Rattle.std.specs.Prelude.{ℕ, ◌+◌, true, List, [], ◌∷◌, ◌++◌, map}
use Rattle.std.specs.List.{filter}
use Rattle.sis_text.specs.declared.places.Span.{Span}
use Rattle.sis_text.specs.declared.places.Line.{Line}
use Rattle.sis_text.specs.Words.{bytes_at, words_from, parts_from}
use Rattle.sis_text.specs.Lines.{cut_comment, physical_lines, has_words}

-- one piece with the number of its line
unfoldable pub piece_at : List ℕ → ℕ → Span → Line
piece_at source number part = record { number = number; words = words_from part.place true (bytes_at source part) }

-- the pieces of one physical line
unfoldable pub line_pieces : List ℕ → ℕ → Span → List Line
line_pieces source number line =
    map (piece_at source number) (parts_from 59 line.place true (cut_comment (bytes_at source line)))

-- the pieces of physical lines, numbered from `number` on
unfoldable pub pieces_from : List ℕ → ℕ → List Span → List Line
pieces_from source number [] = []
pieces_from source number (line ∷ lines) = line_pieces source number line ++ pieces_from source (number + 1) lines

-- the pieces of a script that have words
unfoldable pub pieces_of : List ℕ → List Line
pieces_of source = filter has_words (pieces_from source 1 (physical_lines source))
