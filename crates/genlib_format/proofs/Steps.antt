-- One step of each walk over a file, and its end, as loops take them.
use Rattle.std.proofs.Common.{◌≡◌, ℕ, ◌+◌, ◌<◌, ◌≤◌, ◌==◌, not, List, [], ◌∷◌, ◌++◌, length, take, drop, get_or, map, refl}
use Rattle.std.specs.Borrow.{Bor}
use Rattle.std.proofs.lemmas.List.{drop_more, drop_all}
use Rattle.genlib_expr.specs.Texts.{texts}
use Rattle.genlib_expr.proofs.WordSteps.{front_taken}
use Rattle.sis_text.specs.declared.places.Span.{Span}
use Rattle.genlib_format.specs.Words.{before, lined, line_words, words_from}

-- as many bytes as precede the mark are those bytes
pub before_taken : (mark : ℕ) (text : List ℕ) → take (length (before mark text)) text ≡ before mark text
unfolding before
before_taken mark text = front_taken (λ byte. not (byte == mark)) text

pub words_more : (i : ℕ) (lines : List (Bor (List ℕ))) (line : Bor (List ℕ)) → i < length lines → words_from (i + 1) (texts (drop i lines)) ≡ line_words (i + 1) (get_or lines i line).now ++ words_from (i + 1 + 1) (texts (drop (i + 1) lines))
unfolding words_from
words_more i lines line h = rw (drop_more lines i line h) refl

pub words_done : (number i : ℕ) (lines : List (Bor (List ℕ))) → length lines ≤ i → words_from number (texts (drop i lines)) ≡ []
unfolding words_from
words_done number i lines h = rw (drop_all i lines h) refl

pub spans_more : (number : ℕ) (text : List ℕ) (i : ℕ) (spans : List Span) (span : Span) → i < length spans → map (lined number text) (drop i spans) ≡ lined number text (get_or spans i span) ∷ map (lined number text) (drop (i + 1) spans)
spans_more number text i spans span h = rw (drop_more spans i span h) refl

pub spans_done : (number : ℕ) (text : List ℕ) (i : ℕ) (spans : List Span) → length spans ≤ i → map (lined number text) (drop i spans) ≡ []
spans_done number text i spans h = rw (drop_all i spans h) refl
