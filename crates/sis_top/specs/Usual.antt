-- Words that ask for given options, in the two ways in which a value may be written, and words that
-- are refused. Source: POSIX, "Utility Argument Syntax", with `=` between a letter and its value as
-- clap accepts it.
use Rattle.std.specs.Prelude.{◌≡◌, ⊤, ◌==◌, ℕ, Bool, true, false, Some, None, List, [], ◌∷◌, ◌++◌, codes}
use Rattle.clap.specs.Words.{Text}
use Rattle.sis_top.specs.Asked.{TheScript, InFile, AsText, OnInput, options_of}

-- the words for `-k`, if it is asked for
abbrev pub keep_words : Bool → List Text
keep_words true = codes "-k" ∷ []
keep_words false = []

-- the value in the word of its letter, as `-f=NAME`
abbrev pub joined_words : TheScript → List Text
joined_words (InFile name) = (codes "-f=" ++ name) ∷ []
joined_words (AsText text) = (codes "-c=" ++ text) ∷ []
joined_words OnInput = []

-- the value in a word of its own, as `-f NAME`
abbrev pub parted_words : TheScript → List Text
parted_words (InFile name) = codes "-f" ∷ name ∷ []
parted_words (AsText text) = codes "-c" ∷ text ∷ []
parted_words OnInput = []

-- a value that may have a word of its own: it begins with no `-` (45)
abbrev pub IsPlain : Text → Type 0
IsPlain [] = ⊤
IsPlain (first ∷ bytes) = (first == 45) ≡ false

-- the script's name or text, if it has one, is such a value
abbrev pub HasPlainValue : TheScript → Type 0
HasPlainValue (InFile name) = IsPlain name
HasPlainValue (AsText text) = IsPlain text
HasPlainValue OnInput = ⊤

-- such words are accepted, and ask for exactly that
pub record AreAskedFor : Type 0 where
  pub joined : (keep : Bool) (script : TheScript)
      → options_of (keep_words keep ++ joined_words script) ≡ Some (record { keep = keep; script = script })
  pub parted : (keep : Bool) (script : TheScript) → HasPlainValue script
      → options_of (keep_words keep ++ parted_words script) ≡ Some (record { keep = keep; script = script })

-- words that are not accepted: a file and a text together and nothing else; a flag twice, a long
-- option or a stray word, whatever follows them
pub record AreRefused : Type 0 where
  -- a file and a text together
  pub both : (name text : Text) → options_of (joined_words (InFile name) ++ joined_words (AsText text)) ≡ None
  -- a flag twice
  pub twice : (words : List Text) → options_of (keep_words true ++ keep_words true ++ words) ≡ None
  -- a long option, whichever it is
  pub long : (first : ℕ) (bytes : Text) (words : List Text) → options_of ((codes "--" ++ first ∷ bytes) ∷ words) ≡ None
  -- a word without a letter
  pub stray : (word : Text) (words : List Text) → IsPlain word → options_of (word ∷ words) ≡ None
