-- What holds of all results of the grammar. Source: the SIS manual's command language (UCB/ERL
-- M92/41).
use Rattle.std.specs.Prelude.{◌≡◌, ◌≢◌, ℕ, ◌^◌, ◌≤◌, true, false, Ok, Err, List, [], ◌∷◌, ◌++◌, All, pos, neg_ℤ, ◌≤ℤ◌, ◌<ℤ◌}
use Rattle.std.specs.Str.{is_utf8}
use Rattle.sis_text.specs.Words.{begins_with}
use Rattle.sis_script.specs.Grammar.{kind_of, lacks_word, parse}
use Rattle.sis_script.specs.declared.command.ScriptFault.TheVariants.{BadOption}
use Rattle.sis_script.specs.declared.kinds.Kind.{Kind}
use Rattle.sis_script.specs.declared.kinds.Kind.TheVariants as kind
use Rattle.sis_script.specs.declared.kinds.Value.{Value}
use Rattle.sis_script.specs.declared.kinds.Value.TheVariants as value
use Rattle.sis_script.specs.declared.grammar.OptionForm.{OptionForm}
use Rattle.sis_script.specs.declared.grammar.OptionGiven.{OptionGiven}
use Rattle.sis_script.specs.declared.grammar.Slot.{Slot}
use Rattle.sis_script.specs.declared.grammar.Given.{Given}

-- no option has the letter of an earlier one
unfoldable pub AreOnce : List OptionGiven → Type 0
AreOnce [] = Unit {0}
AreOnce (option ∷ options) = All (λ other. other.letter ≢ option.letter) options × AreOnce options

-- the result of parsing has each option at most once
abbrev pub OptionsComeOnce : Type 0
OptionsComeOnce =
    (options : List OptionForm) (slots : List Slot) (words : List (List ℕ)) (given : Given) → parse options slots words ≡ Ok given → AreOnce given.options

-- a value is of a kind: a file is text that begins with no `-`, and numbers are within their bounds
unfoldable pub Fits : Kind → Value → Type 0
Fits kind.File (value.File file) = (is_utf8 file ≡ true) × (begins_with 45 file ≡ false)
Fits kind.Name (value.Name name) = Unit {0}
Fits (kind.Number least most) (value.Number number) = (least ≤ number) × (number ≤ most)
Fits kind.Integer (value.Integer number) = (neg_ℤ (pos (2 ^ 31)) ≤ℤ number) × (number <ℤ pos (2 ^ 31))
Fits kind.NoComplement value.NoComplement = Unit {0}
Fits kind.Style (value.Style named) = Unit {0}
Fits kind value = ⊥

-- values fill slots: each is of its slot's kind, there are no more of them than slots, and no
-- needed slot stays empty
unfoldable pub FitSlots : List Slot → List Value → Type 0
FitSlots slots [] = lacks_word slots ≡ false
FitSlots [] (value ∷ values) = ⊥
FitSlots (slot ∷ slots) (value ∷ values) = Fits (kind_of slot) value × FitSlots slots values

-- the other words of a command fill its slots
abbrev pub WordsFitSlots : Type 0
WordsFitSlots =
    (options : List OptionForm) (slots : List Slot) (words : List (List ℕ)) (given : Given) → parse options slots words ≡ Ok given → FitSlots slots given.words

-- a bad option stays one, whatever words follow
abbrev pub BadStaysBad : Type 0
BadStaysBad =
    (options : List OptionForm) (slots : List Slot) (words more : List (List ℕ)) → parse options slots words ≡ Err BadOption →
    parse options slots (words ++ more) ≡ Err BadOption
