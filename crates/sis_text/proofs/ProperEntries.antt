-- Entries have words, and no word has a byte at which the text was cut.
use Rattle.std.proofs.Common.{ℕ, ◌<◌, Bool, List, [], ◌∷◌, ◌++◌, map, length, arith}
use Rattle.std.specs.List.{All, AllByRecursion}
use Rattle.std.proofs.lemmas.List.{length-map}
use Rattle.std.proofs.lemmas.List.Elements.{All-from_recursion, recursion_from_All}
use Rattle.sis_text.specs.declared.places.Span.{Span}
use Rattle.sis_text.specs.declared.places.Line.{Line}
use Rattle.sis_text.specs.Words.{bytes_at}
use Rattle.sis_text.specs.Lines.{lines_of}
use Rattle.sis_text.specs.Pieces.{pieces_of}
use Rattle.sis_text.specs.Entries.{entry_at, entries_of, script_entries_of}
use Rattle.sis_text.specs.Order.{is_plain, is_script_plain, IsWordOf, IsProper, words_in}
use Rattle.sis_text.proofs.Proper.{lines_are_plain, pieces_are_plain, lines_have_words, pieces_have_words}

-- all spans name words
abbrev NameWords : (ℕ → Bool) → List ℕ → List Span → Type 0
NameWords test source spans = AllByRecursion (λ span. IsWordOf test (bytes_at source span)) spans

both_parts : (test : ℕ → Bool) (source : List ℕ) (xs ys : List Span) → NameWords test source (xs ++ ys) → NameWords test source xs × NameWords test source ys
both_parts test source [] ys h = (tt, h)
both_parts test source (x ∷ xs) ys h = let more = both_parts test source xs ys h.1 in ((h.0, more.0), more.1)

named_words : (test : ℕ → Bool) (source : List ℕ) (spans : List Span) → NameWords test source spans → AllByRecursion (IsWordOf test) (map (bytes_at source) spans)
named_words test source [] h = tt
named_words test source (span ∷ spans) h = (h.0, named_words test source spans h.1)

-- lines that have words, each of which is named by its span
entries_proper : (test : ℕ → Bool) (source : List ℕ) (lines : List Line) → AllByRecursion (λ line. 0 < length line.words) lines → NameWords test source (words_in lines) → AllByRecursion (IsProper test) (map (entry_at source) lines)
entries_proper test source [] some named = tt
entries_proper test source (line ∷ lines) some named =
    let parts = both_parts test source line.words (words_in lines) named in
    let words = map (bytes_at source) line.words in (
      record {
        some = let has : 0 < length line.words = some.0 in omega (arith, length-map line.words (bytes_at source));
        each = All-from_recursion (IsWordOf test) words (named_words test source line.words parts.0);
      },
      entries_proper test source lines some.1 parts.1,
    )

pub lines_proper : (source : List ℕ) → All (IsProper is_plain) (entries_of source)
unfolding entries_of
lines_proper source =
    All-from_recursion (IsProper is_plain) (map (entry_at source) (lines_of source)) (entries_proper is_plain source (lines_of source) (recursion_from_All (λ line. 0 < length line.words) (lines_of source) (lines_have_words source)) (recursion_from_All (λ span. IsWordOf is_plain (bytes_at source span)) (words_in (lines_of source)) (lines_are_plain source)))

pub pieces_proper : (source : List ℕ) → All (IsProper is_script_plain) (script_entries_of source)
unfolding script_entries_of
pieces_proper source =
    All-from_recursion (IsProper is_script_plain) (map (entry_at source) (pieces_of source)) (entries_proper is_script_plain source (pieces_of source) (recursion_from_All (λ line. 0 < length line.words) (pieces_of source) (pieces_have_words source)) (recursion_from_All (λ span. IsWordOf is_script_plain (bytes_at source span)) (words_in (pieces_of source)) (pieces_are_plain source)))
