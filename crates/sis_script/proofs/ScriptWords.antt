-- Words that may name a file.
use Rattle.std.proofs.Common.{◌≡◌, ℕ, Bool, true, false, Some, None, List, refl, if◌then◌else◌}
use Rattle.std.specs.Str.{IsUtf8, is_utf8}
use Rattle.std.proofs.lemmas.Str.{IsUtf8-from_is_utf8, is_utf8-from_IsUtf8}
use Rattle.sis_text.specs.Words.{begins_with}
use Rattle.sis_script.specs.Kinds.{is_file_word}

not_text : (bytes : List ℕ) → ¬ (IsUtf8 bytes) → is_utf8 bytes ≡ false
not_text bytes no_text = cases (is_utf8 bytes) refl
  where
    cases : (b : Bool) → is_utf8 bytes ≡ b → is_utf8 bytes ≡ false
    cases true e = absurd (no_text (IsUtf8-from_is_utf8 bytes e))
    cases false e = e

-- text that does not begin with `-` may name a file
pub file_text : (bytes word : List ℕ) → begins_with 45 bytes ≡ false → IsUtf8 bytes → word ≡ bytes →
    Some word ≡ (if is_file_word bytes then Some bytes else None)
file_text bytes word dash text same = let is_text = is_utf8-from_IsUtf8 bytes text in rw (is_text, dash, same) refl

-- what is no text may not
pub no_file_text : (bytes : List ℕ) → ¬ (IsUtf8 bytes) → None ≡ (if is_file_word bytes then Some bytes else None)
no_file_text bytes no_text = let is_text = not_text bytes no_text in rw is_text refl
