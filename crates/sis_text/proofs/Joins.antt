-- The walk that joins lines: one step of it.
use Rattle.std.proofs.Common.{◌≡◌, ℕ, ◌+◌, true, false, List, [], ◌∷◌, ◌++◌, Option, Some, None, refl, sym, ◌∙◌, ap, append_assoc}
use Rattle.std.specs.List.{filter}
use Rattle.std.proofs.lemmas.List.Elements.{filter-append}
use Rattle.sis_text.specs.declared.places.Span.{Span}
use Rattle.sis_text.specs.declared.places.Line.{Line}
use Rattle.sis_text.specs.Words.{bytes_at}
use Rattle.sis_base.specs.Written.{ends_open}
use Rattle.sis_text.specs.Lines.{prepend, join_lines, words_at, has_words, content}
use Rattle.sis_text.specs.Joining.{current_line, resume}

-- the line that has begun, with more words
abbrev pub taking : Option Line → ℕ → List Span → Line
taking begun number words = record { number = (current_line begun number).number; words = (current_line begun number).words ++ words }

prepend-prepend : (m n : ℕ) (xs ys : List Span) (lines : List Line) → prepend m xs (prepend n ys lines) ≡ prepend m (xs ++ ys) lines
unfolding prepend
prepend-prepend m n xs ys [] = refl
prepend-prepend m n xs ys (l ∷ lines) = ap (λ (ws : List Span). record { number = m; words = ws } ∷ lines) (sym (append_assoc xs ys l.words))

resume-prepend : (begun : Option Line) (number : ℕ) (words : List Span) (lines : List Line) → resume begun (prepend number words lines) ≡ resume (Some (taking begun number words)) lines
unfolding resume current_line
resume-prepend None number words lines = refl
resume-prepend (Some l) number words lines = prepend-prepend l.number number l.words words lines

resume-line : (begun : Option Line) (number : ℕ) (words : List Span) (lines : List Line) → resume begun (record { number = number; words = words } ∷ lines) ≡ taking begun number words ∷ lines
unfolding resume current_line prepend
resume-line None number words lines = refl
resume-line (Some l) number words lines = refl

-- an open line takes the next one to itself
pub taken_open : (source : List ℕ) (begun : Option Line) (number : ℕ) (line : Span) (rest : List Span) → ends_open (content (bytes_at source line)) ≡ true → resume begun (join_lines source number (line ∷ rest)) ≡ resume (Some (taking begun number (words_at source line))) (join_lines source (number + 1) rest)
unfolding join_lines
taken_open source begun number line rest e = rw e (resume-prepend begun number (words_at source line) (join_lines source (number + 1) rest))

-- a line that is not open ends the one that has begun
pub taken_closed : (source : List ℕ) (begun : Option Line) (number : ℕ) (line : Span) (rest : List Span) → ends_open (content (bytes_at source line)) ≡ false → filter has_words (resume begun (join_lines source number (line ∷ rest))) ≡ filter has_words (taking begun number (words_at source line) ∷ []) ++ filter has_words (join_lines source (number + 1) rest)
unfolding join_lines
taken_closed source begun number line rest e =
    rw e (ap (filter has_words) (resume-line begun number (words_at source line) (join_lines source (number + 1) rest)) ∙ filter-append has_words (taking begun number (words_at source line) ∷ []) (join_lines source (number + 1) rest))
