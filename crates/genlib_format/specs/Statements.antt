-- The statement of a gate, which ends at the first `;`. Source: the genlib format of SIS (UCB/ERL
-- M92/41): `output=expression;` extends over any words and lines, and a blank has no other meaning
-- in it; what follows the `;` needs no blank before it.
use Rattle.std.specs.Prelude.{ℕ, not, nat_lt, Bool, if◌then◌else◌, Option, Some, None, List, [], ◌∷◌, ◌++◌, length, drop, flat_map}
use Rattle.std.specs.List.{take_while}
use Rattle.sis_base.specs.Written.{is_empty, spaced}
use Rattle.genlib_format.specs.declared.words.Lined.{Lined}
use Rattle.genlib_format.specs.Words.{before, behind}

-- whether a word has a `;`
unfoldable pub has_end : Lined → Bool
has_end lined = nat_lt (length (before 59 lined.word)) (length lined.word)

-- what is read, and the words after it
pub record Part (A : Type 0) : Type 0 where
  pub made : A
  pub rest : List Lined

-- the words before the first with a `;`
abbrev pub whole_words : List Lined → List Lined
whole_words words = take_while (λ word. not (has_end word)) words

-- a text of words, a blank before each
unfoldable pub text_of : List Lined → List ℕ
text_of words = flat_map (λ lined. spaced lined.word) words

-- the bytes after the `;` of a word are a word of their own, unless there are none
unfoldable pub left_behind : Lined → List Lined → List Lined
left_behind lined words =
    if is_empty (behind 59 lined.word) then words else record { line = lined.line; word = behind 59 lined.word } ∷ words

-- a text with the bytes before the `;` of the next word
unfoldable pub ended : List ℕ → List Lined → Option (Part (List ℕ))
ended front [] = None
ended front (lined ∷ words) = Some (record { made = front ++ spaced (before 59 lined.word); rest = left_behind lined words })

-- the text before the first `;`, a blank before each word; none if there is no `;`
unfoldable pub statement_at : List Lined → Option (Part (List ℕ))
statement_at words = ended (text_of (whole_words words)) (drop (length (whole_words words)) words)
