-- The bytes of words: no blank, and no mark at which the text was cut.
use Rattle.std.proofs.Common.{◌≡◌, ℕ, ◌-◌, ◌<◌, Bool, true, false, cond, List, [], ◌∷◌, ◌++◌, length, take, refl, sym, ◌∙◌, ap, subst, eqb, not, ◌&&◌, arith, suc, zero, get_or, ◌+◌}
use Rattle.std.specs.List.{take_while, filter, prefix_len, suffix_len, flat_map, AllByRecursion}
use Rattle.std.proofs.lemmas.List.Elements.{All-from_recursion}
use Rattle.std.proofs.lemmas.List.Sums.{take_while-cons}
use Rattle.sis_base.specs.Written.{is_blank, ends_open}
use Rattle.sis_text.specs.declared.places.Span.{Span}
use Rattle.sis_text.specs.declared.places.Line.{Line}
use Rattle.sis_text.specs.Words.{bytes_at, word_len, words_from, part_len, parts_from}
use Rattle.sis_text.specs.Lines.{cut_comment, trim_returns, content, cut_joint, words_at, has_words, not_empty, lines_of, physical_lines, join_lines}
use Rattle.sis_text.specs.Pieces.{pieces_of, pieces_from}
use Rattle.sis_text.specs.Order.{words_in, is_solid, is_of_line, is_plain, is_script_plain, IsWordOf, AreWordsOf, HaveWords}
use Rattle.sis_text.proofs.Texts.{Stands, stands_at, stands_rest, whole_stands, front_passing, cut_comment_stands, content_stands}
use Rattle.sis_text.proofs.Ordered.{lines_words, pieces_words, piece_words, line_piece_words}

-- all bytes pass
abbrev pub Pass : (ℕ → Bool) → List ℕ → Type 0
Pass test text = AllByRecursion (λ byte. test byte ≡ true) text

pass_take : (test : ℕ → Bool) (k : ℕ) (text : List ℕ) → Pass test text → Pass test (take k text)
pass_take test zero text h = tt
pass_take test (suc k) [] h = tt
pass_take test (suc k) (byte ∷ rest) h = (h.0, pass_take test k rest h.1)

pub pass_while : (test : ℕ → Bool) (text : List ℕ) → Pass test (take_while test text)
pass_while test [] = tt
pass_while test (byte ∷ rest) =
    let P : List ℕ → Type 0 = Pass test in
    subst P (sym (take_while-cons test byte rest)) (step (test byte) refl (pass_while test rest))
  where
    step : (b : Bool) → test byte ≡ b → Pass test (take_while test rest) → Pass test (cond b (byte ∷ take_while test rest) [])
    step true e h = (e, h)
    step false e h = tt

pass_both : (p q : ℕ → Bool) (text : List ℕ) → Pass p text → Pass q text → Pass (λ byte. p byte && q byte) text
pass_both p q [] h k = tt
pass_both p q (byte ∷ rest) h k = (both (p byte) (q byte) h.0 k.0, pass_both p q rest h.1 k.1)
  where
    both : (a b : Bool) → a ≡ true → b ≡ true → (a && b) ≡ true
    both a b e f = rw (e, f) refl

-- a word of bytes that all pass
word_is : (test : ℕ → Bool) (byte : ℕ) (rest : List ℕ) → is_blank byte ≡ false → Pass test (byte ∷ rest) → IsWordOf (λ byte. is_solid byte && test byte) (take_while is_solid (byte ∷ rest))
word_is test byte rest e h =
    let P : List ℕ → Type 0 = IsWordOf (λ byte. is_solid byte && test byte) in
    let begins : take_while is_solid (byte ∷ rest) ≡ byte ∷ take_while is_solid rest = take_while-cons is_solid byte rest ∙ ap (λ b. cond (not b) (byte ∷ take_while is_solid rest) []) e in
    record {
      some = rw begins (omega arith);
      passes = All-from_recursion (λ byte. (is_solid byte && test byte) ≡ true) (take_while is_solid (byte ∷ rest)) (pass_both is_solid test (take_while is_solid (byte ∷ rest)) (pass_while is_solid (byte ∷ rest)) (pass_take test (prefix_len is_solid (byte ∷ rest)) (byte ∷ rest) h));
    }

-- the words of a text in which all bytes pass
words_pass : (test : ℕ → Bool) (source : List ℕ) (place : ℕ) (after_blank : Bool) (text : List ℕ) → Stands source place text → Pass test text → AllByRecursion (λ span. IsWordOf (λ byte. is_solid byte && test byte) (bytes_at source span)) (words_from place after_blank text)
unfolding words_from word_len
words_pass test source place after_blank [] s h = tt
words_pass test source place after_blank (byte ∷ rest) s h =
    step after_blank (is_blank byte) refl (words_pass test source (place + 1) (is_blank byte) rest (stands_rest source place byte rest s) h.1)
  where
    step : (after blank : Bool) → is_blank byte ≡ blank → AllByRecursion (λ span. IsWordOf (λ byte. is_solid byte && test byte) (bytes_at source span)) (words_from (place + 1) (is_blank byte) rest) → AllByRecursion (λ span. IsWordOf (λ byte. is_solid byte && test byte) (bytes_at source span)) (cond (after && not blank) (record { place = place; len = word_len (byte ∷ rest) } ∷ []) [] ++ words_from (place + 1) (is_blank byte) rest)
    step true true e o = o
    step false true e o = o
    step true false e o =
        let P : List ℕ → Type 0 = IsWordOf (λ byte. is_solid byte && test byte) in
        (subst P (sym (front_passing is_solid source place (byte ∷ rest) s)) (word_is test byte rest e h), o)
    step false false e o = o

-- parts have no mark, and keep what all bytes pass
parts_pass : (test : ℕ → Bool) (mark : ℕ) (source : List ℕ) (place : ℕ) (after_mark : Bool) (text : List ℕ) → Stands source place text → Pass test text → AllByRecursion (λ span. Pass (λ byte. test byte && not (eqb byte mark)) (bytes_at source span)) (parts_from mark place after_mark text)
unfolding parts_from part_len
parts_pass test mark source place after_mark [] s h = tt
parts_pass test mark source place after_mark (byte ∷ rest) s h =
    step after_mark (parts_pass test mark source (place + 1) (eqb byte mark) rest (stands_rest source place byte rest s) h.1)
  where
    front : Pass (λ byte. test byte && not (eqb byte mark)) (take_while (λ byte. not (eqb byte mark)) (byte ∷ rest))
    front = pass_both test (λ byte. not (eqb byte mark)) (take_while (λ byte. not (eqb byte mark)) (byte ∷ rest)) (pass_take test (prefix_len (λ byte. not (eqb byte mark)) (byte ∷ rest)) (byte ∷ rest) h) (pass_while (λ byte. not (eqb byte mark)) (byte ∷ rest))

    step : (after : Bool) → AllByRecursion (λ span. Pass (λ byte. test byte && not (eqb byte mark)) (bytes_at source span)) (parts_from mark (place + 1) (eqb byte mark) rest) → AllByRecursion (λ span. Pass (λ byte. test byte && not (eqb byte mark)) (bytes_at source span)) (cond after (record { place = place; len = part_len mark (byte ∷ rest) } ∷ []) [] ++ parts_from mark (place + 1) (eqb byte mark) rest)
    step true o =
        let P : List ℕ → Type 0 = Pass (λ byte. test byte && not (eqb byte mark)) in
        (subst P (sym (front_passing (λ byte. not (eqb byte mark)) source place (byte ∷ rest) s)) front, o)
    step false o = o

cut_comment_pass : (test : ℕ → Bool) (line : List ℕ) → Pass test line → Pass (λ byte. test byte && not (eqb byte 35)) (cut_comment line)
unfolding cut_comment
cut_comment_pass test line h =
    pass_both test (λ byte. not (eqb byte 35)) (take_while (λ byte. not (eqb byte 35)) line) (pass_take test (prefix_len (λ byte. not (eqb byte 35)) line) line h) (pass_while (λ byte. not (eqb byte 35)) line)

content_pass : (test : ℕ → Bool) (line : List ℕ) → Pass test line → Pass (λ byte. test byte && not (eqb byte 35)) (cut_joint (content line))
unfolding cut_joint trim_returns
content_pass test line h =
    let t = pass_take (λ byte. test byte && not (eqb byte 35)) (length (cut_comment line) - suffix_len (λ byte. eqb byte 13) (cut_comment line)) (cut_comment line) (cut_comment_pass test line h) in
    step (ends_open (content line)) t (pass_take (λ byte. test byte && not (eqb byte 35)) (length (content line) - 1) (content line) t)
  where
    step : (b : Bool) → Pass (λ byte. test byte && not (eqb byte 35)) (content line) → Pass (λ byte. test byte && not (eqb byte 35)) (take (length (content line) - 1) (content line)) → Pass (λ byte. test byte && not (eqb byte 35)) (cond b (take (length (content line) - 1) (content line)) (content line))
    step true t c = c
    step false t c = t

all_append : {A : Type 0} (P : A → Type 0) (xs ys : List A) → AllByRecursion P xs → AllByRecursion P ys → AllByRecursion P (xs ++ ys)
all_append P [] ys h k = k
all_append P (x ∷ xs) ys h k = (h.0, all_append P xs ys h.1 k)

all_flat : {A B : Type 0} (P : A → Type 0) (Q : B → Type 0) (f : A → List B) (xs : List A) → ((x : A) → P x → AllByRecursion Q (f x)) → AllByRecursion P xs → AllByRecursion Q (flat_map f xs)
all_flat P Q f [] each h = tt
all_flat P Q f (x ∷ xs) each h = all_append Q (f x) (flat_map f xs) (each x h.0) (all_flat P Q f xs each h.1)

-- any byte passes
abbrev pub anything : ℕ → Bool
anything byte = true

pub pass_anything : (text : List ℕ) → Pass anything text
pass_anything [] = tt
pass_anything (byte ∷ rest) = (refl, pass_anything rest)

abbrev pub NoEnd : List ℕ → Type 0
NoEnd = Pass (λ byte. anything byte && not (eqb byte 10))

lines_pass : (source : List ℕ) → AllByRecursion (λ line. NoEnd (bytes_at source line)) (physical_lines source)
lines_pass source = parts_pass anything 10 source 0 true source (whole_stands source) (pass_anything source)

weaker : (p q : ℕ → Bool) (word : List ℕ) → ((byte : ℕ) → p byte ≡ true → q byte ≡ true) → IsWordOf p word → IsWordOf q word
weaker p q word f w = record { some = w.some; passes = λ k d h. f (get_or word k d) (w.passes k d h) }

solid : (a b : Bool) → (a && b) ≡ true → a ≡ true
solid true b e = refl
solid false b e = e

-- the words of one line
pub words_are_solid : (line : List ℕ) → AreWordsOf is_solid line (words_from 0 true line)
words_are_solid line =
    let loose = All-from_recursion (λ span. IsWordOf (λ byte. is_solid byte && anything byte) (bytes_at line span)) (words_from 0 true line) (words_pass anything line 0 true line (whole_stands line) (pass_anything line)) in
    λ k d h. weaker (λ byte. is_solid byte && anything byte) is_solid (bytes_at line (get_or (words_from 0 true line) k d)) (λ byte e. solid (is_solid byte) (anything byte) e) (loose k d h)

-- the words of all logical lines
pub lines_are_plain : (source : List ℕ) → AreWordsOf is_plain source (words_in (lines_of source))
unfolding words_at
lines_are_plain source =
    let P : List Span → Type 0 = AllByRecursion (λ span. IsWordOf is_plain (bytes_at source span)) in
    All-from_recursion (λ span. IsWordOf is_plain (bytes_at source span)) (words_in (lines_of source)) (subst P (sym (lines_words source)) (all_flat (λ line. NoEnd (bytes_at source line)) (λ span. IsWordOf is_plain (bytes_at source span)) (words_at source) (physical_lines source) each (lines_pass source)))
  where
    each : (line : Span) → NoEnd (bytes_at source line) → AllByRecursion (λ span. IsWordOf is_plain (bytes_at source span)) (words_at source line)
    each line h =
        words_pass (λ byte. not (eqb byte 10) && not (eqb byte 35)) source line.place true (cut_joint (content (bytes_at source line))) (content_stands source line) (content_pass (λ byte. not (eqb byte 10)) (bytes_at source line) h)

-- the words of all pieces of a script
pub pieces_are_plain : (source : List ℕ) → AreWordsOf is_script_plain source (words_in (pieces_of source))
pieces_are_plain source =
    let P : List Span → Type 0 = AllByRecursion (λ span. IsWordOf is_script_plain (bytes_at source span)) in
    All-from_recursion (λ span. IsWordOf is_script_plain (bytes_at source span)) (words_in (pieces_of source)) (subst P (sym (pieces_words source)) (all_flat (λ line. NoEnd (bytes_at source line)) (λ span. IsWordOf is_script_plain (bytes_at source span)) (line_piece_words source) (physical_lines source) each (lines_pass source)))
  where
    each_part : (part : Span) → Pass (λ byte. is_of_line byte && not (eqb byte 59)) (bytes_at source part) → AllByRecursion (λ span. IsWordOf is_script_plain (bytes_at source span)) (piece_words source part)
    each_part part h =
        words_pass (λ byte. is_of_line byte && not (eqb byte 59)) source part.place true (bytes_at source part) (stands_at source part) h

    each : (line : Span) → NoEnd (bytes_at source line) → AllByRecursion (λ span. IsWordOf is_script_plain (bytes_at source span)) (line_piece_words source line)
    each line h =
        let parts = parts_from 59 line.place true (cut_comment (bytes_at source line)) in
        all_flat (λ part. Pass (λ byte. is_of_line byte && not (eqb byte 59)) (bytes_at source part)) (λ span. IsWordOf is_script_plain (bytes_at source span)) (piece_words source) parts each_part (parts_pass is_of_line 59 source line.place true (cut_comment (bytes_at source line)) (cut_comment_stands source line) (cut_comment_pass (λ byte. not (eqb byte 10)) (bytes_at source line) h))

-- lines that are not skipped have words
kept_lines : (lines : List Line) → AllByRecursion (λ line. 0 < length line.words) (filter has_words lines)
unfolding has_words
kept_lines [] = tt
kept_lines (l ∷ lines) = step l.words refl (kept_lines lines)
  where
    step : (ws : List Span) → l.words ≡ ws → AllByRecursion (λ line. 0 < length line.words) (filter has_words lines) → AllByRecursion (λ line. 0 < length line.words) (cond (not_empty ws) (l ∷ filter has_words lines) (filter has_words lines))
    step [] e h = h
    step (x ∷ ws) e h = (rw e (omega arith), h)

pub lines_have_words : (source : List ℕ) → HaveWords (lines_of source)
unfolding lines_of
lines_have_words source = All-from_recursion (λ line. 0 < length line.words) (filter has_words (join_lines source 1 (physical_lines source))) (kept_lines (join_lines source 1 (physical_lines source)))

pub pieces_have_words : (source : List ℕ) → HaveWords (pieces_of source)
unfolding pieces_of
pieces_have_words source = All-from_recursion (λ line. 0 < length line.words) (filter has_words (pieces_from source 1 (physical_lines source))) (kept_lines (pieces_from source 1 (physical_lines source)))
