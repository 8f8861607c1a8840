-- The order and the bytes of the words that are found in a text. Source: "Berkeley Logic
-- Interchange Format (BLIF)", appendix of the SIS report (UCB/ERL M92/41).
use Rattle.std.specs.Prelude.{◌≡◌, ℕ, ◌+◌, ◌<◌, ◌≤◌, ◌==◌, ◌&&◌, not, Bool, true, List, [], ◌∷◌, length}
use Rattle.std.specs.List.{All, flat_map}
use Rattle.sis_base.specs.Written.{is_blank}
use Rattle.sis_text.specs.declared.places.Span.{Span}
use Rattle.sis_text.specs.declared.places.Line.{Line}
use Rattle.sis_text.specs.Words.{bytes_at}
use Rattle.sis_text.specs.Entries.{Entry}

-- no span begins before the end of the previous one, the first not before `from`, and none ends
-- after `limit`
unfoldable pub AreInOrder : ℕ → ℕ → List Span → Type 0
AreInOrder from limit [] = Unit {0}
AreInOrder from limit (span ∷ spans) =
    (from ≤ span.place) × (span.place + span.len ≤ limit) × AreInOrder (span.place + span.len) limit spans

-- the words of all lines, one after the other
abbrev pub words_in : List Line → List Span
words_in lines = flat_map (λ line. line.words) lines

-- a byte that is not a blank
abbrev pub is_solid : ℕ → Bool
is_solid byte = not (is_blank byte)

-- a byte that neither ends a line nor begins a comment
abbrev pub is_of_line : ℕ → Bool
is_of_line byte = not (byte == 10) && not (byte == 35)

-- a byte that may occur in a word of a logical line
abbrev pub is_plain : ℕ → Bool
is_plain byte = is_solid byte && is_of_line byte

-- a byte that may occur in a word of a script
abbrev pub is_script_plain : ℕ → Bool
is_script_plain byte = is_solid byte && (is_of_line byte && not (byte == 59))

-- a word is not empty, and all its bytes pass a test
pub record IsWordOf (test : ℕ → Bool) (word : List ℕ) : Type 0 where
  pub some : 0 < length word
  pub passes : All (λ byte. test byte ≡ true) word

-- each span is a word
abbrev pub AreWordsOf : (ℕ → Bool) → List ℕ → List Span → Type 0
AreWordsOf test source spans = All (λ span. IsWordOf test (bytes_at source span)) spans

-- each line has words
abbrev pub HaveWords : List Line → Type 0
HaveWords lines = All (λ line. 0 < length line.words) lines

-- an entry has words, and each is one
pub record IsProper (test : ℕ → Bool) (entry : Entry) : Type 0 where
  pub some : 0 < length entry.words
  pub each : All (IsWordOf test) entry.words
