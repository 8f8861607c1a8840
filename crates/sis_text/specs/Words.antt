-- The words of a line, and the parts of a text between marks, each as a span: a position and a
-- length. Source: "Berkeley Logic Interchange Format (BLIF)", appendix of the SIS report (UCB/ERL
-- M92/41): words are separated by blanks (tab, carriage return, space).
use Rattle.std.specs.Prelude.{ℕ, ◌+◌, ◌==◌, ◌&&◌, not, Bool, true, false, List, [], ◌∷◌, ◌++◌, length, take, drop, if◌then◌else◌}
use Rattle.std.specs.List.{take_while}
use Rattle.sis_base.specs.Written.{is_blank}
use Rattle.sis_text.specs.declared.places.Span.{Span}

-- the bytes of a span of a text
abbrev pub bytes_at : List ℕ → Span → List ℕ
bytes_at source span = take span.len (drop span.place source)

-- whether the first byte of a word is this one
abbrev pub begins_with : ℕ → List ℕ → Bool
begins_with byte [] = false
begins_with byte (first ∷ bytes) = first == byte

-- the number of bytes before the first blank
unfoldable pub word_len : List ℕ → ℕ
word_len bytes = length (take_while (λ byte. not (is_blank byte)) bytes)

-- A word begins at each byte that is not a blank and follows a blank or nothing, and ends before
-- the next blank. The bytes begin at position `place`; `after_blank` says whether a blank or
-- nothing precedes them.
unfoldable pub words_from : ℕ → Bool → List ℕ → List Span
words_from place after_blank [] = []
words_from place after_blank (byte ∷ rest) =
    (if after_blank && not (is_blank byte) then record { place = place; len = word_len (byte ∷ rest) } ∷ [] else [])
    ++ words_from (place + 1) (is_blank byte) rest

-- the words of one line
abbrev pub words_of : List ℕ → List Span
words_of line = words_from 0 true line

-- the number of bytes before the first mark
unfoldable pub part_len : ℕ → List ℕ → ℕ
part_len mark bytes = length (take_while (λ byte. not (byte == mark)) bytes)

-- A part begins at each byte that follows a mark or nothing, and ends before the next mark; there
-- is no part after a mark at the very end. The bytes begin at position `place`.
unfoldable pub parts_from : ℕ → ℕ → Bool → List ℕ → List Span
parts_from mark place after_mark [] = []
parts_from mark place after_mark (byte ∷ rest) =
    (if after_mark then record { place = place; len = part_len mark (byte ∷ rest) } ∷ [] else [])
    ++ parts_from mark (place + 1) (byte == mark) rest
