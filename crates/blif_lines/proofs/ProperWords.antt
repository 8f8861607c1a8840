-- The words of the lines of a text are words in the sense of circuits.
use Rattle.std.specs.Prelude.{◌≡◌, ℕ, ◌<◌, Bool, true, List, [], ◌∷◌}
use Rattle.std.specs.List.{list_all, AllByRecursion}
use Rattle.std.proofs.Common.{refl, arith}
use Rattle.std.proofs.lemmas.List.Elements.{recursion_from_All}
use Rattle.std.proofs.lemmas.Bool.{and_from}
use Rattle.sis_base.specs.Written.{is_word, is_word_byte}
use Rattle.sis_text.specs.Entries.{Entry, entries_of}
use Rattle.sis_text.specs.Order.{IsProper, IsWordOf, is_plain}
use Rattle.sis_text.proofs.ProperEntries.{lines_proper}
use Rattle.blif_lines.proofs.NameLists.{all_kept}
use Rattle.kiss_format.proofs.Sound.{plain_byte}

pub all_pass : (test : ℕ → Bool) (bytes : List ℕ) → AllByRecursion (λ byte. test byte ≡ true) bytes → list_all test bytes ≡ true
all_pass test [] h = refl
all_pass test (byte ∷ bytes) h = and_from (test byte) (list_all test bytes) h.0 (all_pass test bytes h.1)

pub word_is : (word : List ℕ) → IsWordOf is_plain word → is_word word ≡ true
unfolding is_word
word_is [] p = absurd (let none : 0 < 0 = p.some in omega arith)
word_is (byte ∷ bytes) p =
    all_pass is_word_byte (byte ∷ bytes)
    (all_kept (λ b. is_plain b ≡ true) (λ b. is_word_byte b ≡ true) (byte ∷ bytes) plain_byte (recursion_from_All (λ b. is_plain b ≡ true) (byte ∷ bytes) p.passes))

pub words_are : (entry : Entry) → IsProper is_plain entry → AllByRecursion (λ word. is_word word ≡ true) entry.words
words_are entry p =
    all_kept (IsWordOf is_plain) (λ word. is_word word ≡ true) entry.words word_is (recursion_from_All (IsWordOf is_plain) entry.words p.each)

pub proper_words : (source : List ℕ) → AllByRecursion (λ (entry : Entry). AllByRecursion (λ word. is_word word ≡ true) entry.words) (entries_of source)
proper_words source =
    all_kept (IsProper is_plain) (λ (entry : Entry). AllByRecursion (λ word. is_word word ≡ true) entry.words) (entries_of source) words_are
    (recursion_from_All (IsProper is_plain) (entries_of source) (lines_proper source))
