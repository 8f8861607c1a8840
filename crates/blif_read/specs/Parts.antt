-- The lines of a KISS2 part, and those of the model outside it. Source: BLIF appendix of the SIS
-- report (UCB/ERL M92/41): a state table is between `.start_kiss` and `.end_kiss`. Without
-- `.end_kiss` the part goes to the end of the file.
use Rattle.std.specs.Prelude.{ℕ, ◌+◌, Bool, not, List, ◌++◌, length, take, drop, take_while, bytes_eq, codes}
use Rattle.sis_text.specs.Entries.{Entry}
use Rattle.line_words.specs.LineWords.{first_word}
use Rattle.blif_lines.specs.Keyword.{kind_of}
use Rattle.blif_lines.specs.Lines.{begins_kiss}

-- whether a line ends a KISS2 part
abbrev pub ends_kiss : Entry → Bool
ends_kiss line = bytes_eq (first_word line.words) (codes ".end_kiss")

-- the number of lines up to and including the first that begins a KISS2 part
abbrev pub front_count : List Entry → ℕ
front_count lines = length (take_while (λ line. not (begins_kiss (kind_of line))) lines) + 1

-- the lines up to and including the first that begins a KISS2 part; all lines if none begins one
unfoldable pub front_lines : List Entry → List Entry
front_lines lines = take (front_count lines) lines

-- the lines of the part: those after the line that begins it, before the first that ends it
unfoldable pub kiss_lines : List Entry → List Entry
kiss_lines lines = take_while (λ line. not (ends_kiss line)) (drop (front_count lines) lines)

-- the lines of the part with the one that ends it, if one does
unfoldable pub ended_lines : List Entry → List Entry
ended_lines lines = take (length (kiss_lines lines) + 1) (drop (front_count lines) lines)

-- the lines after the one that ends the part
unfoldable pub rest_lines : List Entry → List Entry
rest_lines lines = drop (length (kiss_lines lines) + 1) (drop (front_count lines) lines)

-- the lines of the model: those before the part, with the one that begins it, and those after it
unfoldable pub lines_beside : List Entry → List Entry
lines_beside lines = front_lines lines ++ rest_lines lines
