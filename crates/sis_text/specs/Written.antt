-- The logical lines of a text that is written from lines of words. Source: "Berkeley Logic
-- Interchange Format (BLIF)", appendix of the SIS report (UCB/ERL M92/41). The base crate defines
-- how such lines are written.
use Rattle.std.specs.Prelude.{◌≡◌, ℕ, ◌+◌, true, List, [], ◌∷◌}
use Rattle.std.specs.List.{All}
use Rattle.sis_base.specs.Written.{Written, is_word}
use Rattle.sis_text.specs.Entries.{Entry}

-- each word of the line is a word: no reader takes a byte of it for a blank, a line end or a
-- comment
abbrev pub IsLineOfWords : Written → Type 0
IsLineOfWords line = All (λ word. is_word word ≡ true) (line.first ∷ line.others)

-- the lines with their numbers, from `number` on
unfoldable pub numbered : ℕ → List Written → List Entry
numbered number [] = []
numbered number (line ∷ lines) = record { number = number; words = line.first ∷ line.others } ∷ numbered (number + 1) lines
