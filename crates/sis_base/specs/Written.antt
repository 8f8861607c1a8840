-- Words and lines as a program writes them: words separated by one blank, each line ended by byte
-- 10. Source: the BLIF appendix of the SIS report (UCB/ERL M92/41): blanks separate words, `#`
-- begins a comment, and a `\` as the last byte of a line joins the next one to it.
use Rattle.std.specs.Prelude.{ℕ, Bool, true, false, not, ◌&&◌, ◌||◌, ◌==◌, List, [], ◌∷◌, ◌++◌, flat_map, if◌then◌else◌}
use Rattle.std.specs.List.{list_all}

-- tab, carriage return and space separate words
abbrev pub is_blank : ℕ → Bool
is_blank byte = byte == 9 || byte == 13 || byte == 32

-- a byte that may occur in a word: no blank, no line end, no `#`
abbrev pub is_word_byte : ℕ → Bool
is_word_byte byte = not (is_blank byte || byte == 10 || byte == 35)

-- whether there is no byte
abbrev pub is_empty : List ℕ → Bool
is_empty [] = true
is_empty (byte ∷ bytes) = false

-- a word: at least one byte, and each may occur in a word
unfoldable pub is_word : List ℕ → Bool
is_word bytes = not (is_empty bytes) && list_all is_word_byte bytes

-- whether the last byte is `\`, which would join the next line
unfoldable pub ends_open : List ℕ → Bool
ends_open [] = false
ends_open (byte ∷ []) = byte == 92
ends_open (byte ∷ next ∷ bytes) = ends_open (next ∷ bytes)

-- how a line ends: byte 10, after one more blank if the last byte would be `\`
unfoldable pub line_end : List ℕ → List ℕ
line_end text = if ends_open text then 32 ∷ 10 ∷ [] else 10 ∷ []

-- a word with a blank before it
abbrev pub spaced : List ℕ → List ℕ
spaced word = 32 ∷ word

-- the words of a line to be written: a first one and the others
pub record Written : Type 0 where
  pub first : List ℕ
  pub others : List (List ℕ)

-- a line without its end
unfoldable pub joined_words : Written → List ℕ
joined_words line = line.first ++ flat_map spaced line.others

-- a line as it is written
unfoldable pub line_text : Written → List ℕ
line_text line = joined_words line ++ line_end (joined_words line)

-- lines, one after the other
unfoldable pub lines_text : List Written → List ℕ
lines_text lines = flat_map line_text lines
