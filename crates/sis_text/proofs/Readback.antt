-- Lines of words that are written are read as they were.
use Rattle.std.proofs.Common.{◌≡◌, ℕ, ◌+◌, ◌-◌, ◌<◌, Bool, true, false, cond, List, [], ◌∷◌, ◌++◌, length, take, refl, sym, ◌∙◌, ap, subst, eqb, not, ◌&&◌, ◌||◌, arith, get_or, map}
use Rattle.std.specs.List.{take_while, filter, suffix_len, flat_map, list_all, All, AllByRecursion}
use Rattle.std.proofs.lemmas.Bool.{false≢true}
use Rattle.std.proofs.lemmas.List.{append_assoc, append-nil, take_all}
use Rattle.std.proofs.lemmas.List.Elements.{All-from_recursion, recursion_from_All}
use Rattle.std.proofs.lemmas.List.Sums.{take_while-cons, suffix_len_is}
use Rattle.sis_base.specs.Written.{is_blank, is_word_byte, is_word, ends_open, line_end, spaced, Written, joined_words, line_text, lines_text}
use Rattle.sis_text.specs.declared.places.Span.{Span}
use Rattle.sis_text.specs.declared.places.Line.{Line}
use Rattle.sis_text.specs.Words.{bytes_at, word_len, words_from, part_len, parts_from}
use Rattle.sis_text.specs.Lines.{cut_comment, trim_returns, content, cut_joint, words_at, join_lines, not_empty, has_words, physical_lines, lines_of}
use Rattle.sis_text.specs.Entries.{Entry, entry_at, entries_of}
use Rattle.sis_text.specs.Order.{is_solid, is_of_line, is_plain, IsWordOf}
use Rattle.sis_text.specs.Written.{IsLineOfWords, numbered}
use Rattle.sis_text.proofs.Proper.{Pass}
use Rattle.sis_text.proofs.Texts.{Stands, stands_rest, whole_stands, first_stands, second_stands}

cons_same : {A : Type 0} {x y : A} {xs ys : List A} → x ≡ y → xs ≡ ys → x ∷ xs ≡ y ∷ ys
cons_same e f = cc

-- the span of a text that begins at a position
abbrev span_at : ℕ → List ℕ → Span
span_at place text = record { place = place; len = length text }

pass_weaker : (p q : ℕ → Bool) (text : List ℕ) → ((byte : ℕ) → p byte ≡ true → q byte ≡ true) → Pass p text → Pass q text
pass_weaker p q [] f h = tt
pass_weaker p q (byte ∷ rest) f h = (f byte h.0, pass_weaker p q rest f h.1)

pass_append : (p : ℕ → Bool) (xs ys : List ℕ) → Pass p xs → Pass p ys → Pass p (xs ++ ys)
pass_append p [] ys h k = k
pass_append p (byte ∷ xs) ys h k = (h.0, pass_append p xs ys h.1 k)

while_at : (p : ℕ → Bool) (text : List ℕ) (byte : ℕ) (rest : List ℕ) → Pass p text → p byte ≡ false → take_while p (text ++ byte ∷ rest) ≡ text
while_at p [] byte rest h e = take_while-cons p byte rest ∙ ap (λ b. cond b (byte ∷ take_while p rest) []) e
while_at p (x ∷ xs) byte rest h e =
    take_while-cons p x (xs ++ byte ∷ rest) ∙ ap (λ b. cond b (x ∷ take_while p (xs ++ byte ∷ rest)) []) h.0 ∙ ap (λ ys. x ∷ ys) (while_at p xs byte rest h.1 e)

while_all : (p : ℕ → Bool) (text : List ℕ) → Pass p text → take_while p text ≡ text
while_all p [] h = refl
while_all p (x ∷ xs) h =
    take_while-cons p x xs ∙ ap (λ b. cond b (x ∷ take_while p xs) []) h.0 ∙ ap (λ ys. x ∷ ys) (while_all p xs h.1)

-- the text of a written line before its end
abbrev is_inner : ℕ → Bool
is_inner byte = not (eqb byte 10) && (not (eqb byte 35) && not (eqb byte 13))

both_first : (a b : Bool) → (a && b) ≡ true → a ≡ true
both_first true b e = refl
both_first false b e = e

both_second : (a b : Bool) → (a && b) ≡ true → b ≡ true
both_second true b e = e
both_second false b e = absurd (false≢true e)

inner_of : (nine thirteen space ten hash : Bool) → (not (nine || thirteen || space) && (not ten && not hash)) ≡ true → (not ten && (not hash && not thirteen)) ≡ true
inner_of true thirteen space ten hash e = absurd (false≢true e)
inner_of false true space ten hash e = absurd (false≢true e)
inner_of false false true ten hash e = absurd (false≢true e)
inner_of false false false true hash e = absurd (false≢true e)
inner_of false false false false true e = absurd (false≢true e)
inner_of false false false false false e = refl

plain_inner : (byte : ℕ) → is_plain byte ≡ true → is_inner byte ≡ true
plain_inner byte e = inner_of (eqb byte 9) (eqb byte 13) (eqb byte 32) (eqb byte 10) (eqb byte 35) e

plain_solid : (byte : ℕ) → is_plain byte ≡ true → is_solid byte ≡ true
plain_solid byte e = both_first (is_solid byte) (is_of_line byte) e

no_mark : (byte : ℕ) → is_inner byte ≡ true → not (eqb byte 10) ≡ true
no_mark byte e = both_first (not (eqb byte 10)) (not (eqb byte 35) && not (eqb byte 13)) e

no_hash : (byte : ℕ) → is_inner byte ≡ true → not (eqb byte 35) ≡ true
no_hash byte e = both_first (not (eqb byte 35)) (not (eqb byte 13)) (both_second (not (eqb byte 10)) (not (eqb byte 35) && not (eqb byte 13)) e)

no_return : (byte : ℕ) → is_inner byte ≡ true → not (eqb byte 13) ≡ true
no_return byte e = both_second (not (eqb byte 35)) (not (eqb byte 13)) (both_second (not (eqb byte 10)) (not (eqb byte 35) && not (eqb byte 13)) e)

was_false : (b : Bool) → not b ≡ true → b ≡ false
was_false true e = sym e
was_false false e = refl

-- a line ends at its byte 10
parts_past : (place : ℕ) (text rest : List ℕ) → Pass is_inner text → parts_from 10 place false (text ++ 10 ∷ rest) ≡ parts_from 10 (place + length text + 1) true rest
unfolding parts_from
parts_past place [] rest h = ap (λ p. parts_from 10 p true rest) (omega arith)
parts_past place (byte ∷ text) rest h =
    ap (λ (b : Bool). parts_from 10 (place + 1) b (text ++ 10 ∷ rest)) (was_false (eqb byte 10) (no_mark byte h.0)) ∙ parts_past (place + 1) text rest h.1 ∙ ap (λ p. parts_from 10 p true rest) (omega arith)

parts_line : (place : ℕ) (text rest : List ℕ) → Pass is_inner text → parts_from 10 place true (text ++ 10 ∷ rest) ≡ span_at place text ∷ parts_from 10 (place + length text + 1) true rest
unfolding parts_from part_len
parts_line place [] rest h = ap (λ p. span_at place [] ∷ parts_from 10 p true rest) (omega arith)
parts_line place (byte ∷ text) rest h =
    cons_same (ap (span_at place) (while_at (λ byte. not (eqb byte 10)) (byte ∷ text) 10 rest (pass_weaker is_inner (λ byte. not (eqb byte 10)) (byte ∷ text) no_mark h) refl)) (ap (λ (b : Bool). parts_from 10 (place + 1) b (text ++ 10 ∷ rest)) (was_false (eqb byte 10) (no_mark byte h.0)) ∙ parts_past (place + 1) text rest h.1 ∙ ap (λ p. parts_from 10 p true rest) (omega arith))

-- nothing is cut from it
trim_returns_whole : (text : List ℕ) → Pass is_inner text → trim_returns text ≡ text
unfolding trim_returns
trim_returns_whole text h =
    let all : All (λ (byte : ℕ). not (eqb byte 13) ≡ true) text = All-from_recursion (λ (byte : ℕ). not (eqb byte 13) ≡ true) text (pass_weaker is_inner (λ byte. not (eqb byte 13)) text no_return h) in
    let e : suffix_len (λ byte. eqb byte 13) text ≡ length text - length text = suffix_len_is (λ byte. eqb byte 13) text (length text) 0 (omega arith) (λ k a b. absurd (omega arith)) (λ positive. was_false (eqb (get_or text (length text - 1) 0) 13) (all (length text - 1) 0 (omega arith))) in
    take_all (length text - suffix_len (λ byte. eqb byte 13) text) text (omega arith)

content_whole : (text : List ℕ) → Pass is_inner text → content text ≡ text
unfolding cut_comment
content_whole text h =
    let u : cut_comment text ≡ text = while_all (λ byte. not (eqb byte 35)) text (pass_weaker is_inner (λ byte. not (eqb byte 35)) text no_hash h) in
    ap trim_returns u ∙ trim_returns_whole text h

blank_closed : (text : List ℕ) → ends_open (text ++ 32 ∷ []) ≡ false
unfolding ends_open
blank_closed [] = refl
blank_closed (byte ∷ []) = refl
blank_closed (byte ∷ next ∷ bytes) = blank_closed (next ∷ bytes)

-- the blank that may come before the end of a line
abbrev blank_end : Bool → List ℕ
blank_end true = 32 ∷ []
blank_end false = []

-- a line without its byte 10
abbrev padded : List ℕ → List ℕ
padded text = text ++ blank_end (ends_open text)

padded_closed : (text : List ℕ) → ends_open (padded text) ≡ false
padded_closed text = step (ends_open text) refl
  where
    step : (b : Bool) → ends_open text ≡ b → ends_open (text ++ blank_end b) ≡ false
    step true e = blank_closed text
    step false e = ap ends_open (append-nil text) ∙ e

padded_ends : (text : List ℕ) → text ++ line_end text ≡ padded text ++ 10 ∷ []
unfolding line_end
padded_ends text = step (ends_open text)
  where
    step : (b : Bool) → text ++ cond b (32 ∷ 10 ∷ []) (10 ∷ []) ≡ (text ++ blank_end b) ++ 10 ∷ []
    step true = sym (append_assoc text (32 ∷ []) (10 ∷ []))
    step false = sym (append_assoc text [] (10 ∷ []))

-- a word has bytes, and all are plain
plain_of : (blank ten hash : Bool) → not (blank || ten || hash) ≡ true → (not blank && (not ten && not hash)) ≡ true
plain_of true ten hash e = absurd (false≢true e)
plain_of false true hash e = absurd (false≢true e)
plain_of false false true e = absurd (false≢true e)
plain_of false false false e = refl

word_plain : (byte : ℕ) → is_word_byte byte ≡ true → is_plain byte ≡ true
word_plain byte e = plain_of (is_blank byte) (eqb byte 10) (eqb byte 35) e

listed_pass : (p : ℕ → Bool) (text : List ℕ) → list_all p text ≡ true → Pass p text
listed_pass p [] e = tt
listed_pass p (byte ∷ rest) e =
    (both_first (p byte) (list_all p rest) e, listed_pass p rest (both_second (p byte) (list_all p rest) e))

word_of : (word : List ℕ) → is_word word ≡ true → IsWordOf is_plain word
unfolding is_word
word_of [] e = absurd (false≢true e)
word_of (byte ∷ rest) e = record {
  some = omega arith;
  passes = All-from_recursion (λ (byte : ℕ). is_plain byte ≡ true) (byte ∷ rest) (pass_weaker is_word_byte is_plain (byte ∷ rest) word_plain (listed_pass is_word_byte (byte ∷ rest) e));
}

are_words_of : (words : List (List ℕ)) → AllByRecursion (λ word. is_word word ≡ true) words → AllByRecursion (IsWordOf is_plain) words
are_words_of [] h = tt
are_words_of (word ∷ words) h = (word_of word h.0, are_words_of words h.1)

-- words are found as they were
words_past : (place : ℕ) (word rest : List ℕ) → Pass is_solid word → words_from place false (word ++ 32 ∷ rest) ≡ words_from (place + length word + 1) true rest
unfolding words_from
words_past place [] rest h = ap (λ p. words_from p true rest) (omega arith)
words_past place (byte ∷ word) rest h =
    ap (λ (b : Bool). words_from (place + 1) b (word ++ 32 ∷ rest)) (was_false (is_blank byte) h.0) ∙ words_past (place + 1) word rest h.1 ∙ ap (λ p. words_from p true rest) (omega arith)

words_end : (place : ℕ) (word : List ℕ) → Pass is_solid word → words_from place false word ≡ []
unfolding words_from
words_end place [] h = refl
words_end place (byte ∷ word) h = ap (λ (b : Bool). words_from (place + 1) b word) (was_false (is_blank byte) h.0) ∙ words_end (place + 1) word h.1

word_first : (place : ℕ) (word rest : List ℕ) → 0 < length word → Pass is_solid word → words_from place true (word ++ 32 ∷ rest) ≡ span_at place word ∷ words_from (place + length word + 1) true rest
unfolding words_from word_len
word_first place [] rest l h = absurd (omega arith)
word_first place (byte ∷ word) rest l h =
    step (is_blank byte) (was_false (is_blank byte) h.0) (while_at is_solid (byte ∷ word) 32 rest h refl) (words_past (place + 1) word rest h.1 ∙ ap (λ p. words_from p true rest) (omega arith))
  where
    step : (b : Bool) → b ≡ false → take_while is_solid (byte ∷ (word ++ 32 ∷ rest)) ≡ byte ∷ word → words_from (place + 1) false (word ++ 32 ∷ rest) ≡ words_from (place + length (byte ∷ word) + 1) true rest → cond (not b) (record { place = place; len = length (take_while is_solid (byte ∷ (word ++ 32 ∷ rest))) } ∷ []) [] ++ words_from (place + 1) b (word ++ 32 ∷ rest) ≡ span_at place (byte ∷ word) ∷ words_from (place + length (byte ∷ word) + 1) true rest
    step true e f g = absurd (false≢true (sym e))
    step false e f g = cons_same (ap (span_at place) f) g

word_last : (place : ℕ) (word : List ℕ) → 0 < length word → Pass is_solid word → words_from place true word ≡ span_at place word ∷ []
unfolding words_from word_len
word_last place [] l h = absurd (omega arith)
word_last place (byte ∷ word) l h =
    step (is_blank byte) (was_false (is_blank byte) h.0) (while_all is_solid (byte ∷ word) h) (words_end (place + 1) word h.1)
  where
    step : (b : Bool) → b ≡ false → take_while is_solid (byte ∷ word) ≡ byte ∷ word → words_from (place + 1) false word ≡ [] → cond (not b) (record { place = place; len = length (take_while is_solid (byte ∷ word)) } ∷ []) [] ++ words_from (place + 1) b word ≡ span_at place (byte ∷ word) ∷ []
    step true e f g = absurd (false≢true (sym e))
    step false e f g = cons_same (ap (span_at place) f) g

word_pass : (p : ℕ → Bool) (word : List ℕ) → ((byte : ℕ) → is_plain byte ≡ true → p byte ≡ true) → IsWordOf is_plain word → Pass p word
word_pass p word f w = pass_weaker is_plain p word f (recursion_from_All (λ (byte : ℕ). is_plain byte ≡ true) word w.passes)

words_of_line : (source : List ℕ) (place : ℕ) (b : Bool) (first : List ℕ) (others : List (List ℕ)) → AllByRecursion (IsWordOf is_plain) (first ∷ others) → Stands source place (first ++ (flat_map spaced others ++ blank_end b)) → map (bytes_at source) (words_from place true (first ++ (flat_map spaced others ++ blank_end b))) ≡ first ∷ others
unfolding words_from
words_of_line source place true first [] w s =
    ap (map (bytes_at source)) (word_first place first [] w.0.some (word_pass is_solid first plain_solid w.0)) ∙ cons_same (first_stands source place first (32 ∷ []) s).is refl
words_of_line source place false first [] w s =
    ap (λ text. map (bytes_at source) (words_from place true text)) (append-nil first) ∙ ap (map (bytes_at source)) (word_last place first w.0.some (word_pass is_solid first plain_solid w.0)) ∙ cons_same (first_stands source place first [] s).is refl
words_of_line source place b first (other ∷ others) w s =
    let rest = other ++ (flat_map spaced others ++ blank_end b) in
    let P : List ℕ → Type 0 = λ text. Stands source place (first ++ 32 ∷ text) in
    let e : (other ++ flat_map spaced others) ++ blank_end b ≡ rest = append_assoc other (flat_map spaced others) (blank_end b) in
    let t : Stands source place (first ++ 32 ∷ rest) = subst P e s in
    let behind : Stands source (place + length first + 1) rest = stands_rest source (place + length first) 32 rest (second_stands source place first (32 ∷ rest) t) in
    ap (λ (text : List ℕ). map (bytes_at source) (words_from place true (first ++ 32 ∷ text))) e ∙ ap (map (bytes_at source)) (word_first place first rest w.0.some (word_pass is_solid first plain_solid w.0)) ∙ cons_same (first_stands source place first (32 ∷ rest) t).is (words_of_line source (place + length first + 1) b other others w.1 behind)

others_pass : (others : List (List ℕ)) → AllByRecursion (IsWordOf is_plain) others → Pass is_inner (flat_map spaced others)
others_pass [] w = tt
others_pass (other ∷ others) w = (refl, pass_append is_inner other (flat_map spaced others) (word_pass is_inner other plain_inner w.0) (others_pass others w.1))

blank_passes : (b : Bool) → Pass is_inner (blank_end b)
blank_passes true = (refl, tt)
blank_passes false = tt

abbrev body : Written → List ℕ
body line = padded (joined_words line)

body_pass : (line : Written) → AllByRecursion (IsWordOf is_plain) (line.first ∷ line.others) → Pass is_inner (body line)
unfolding joined_words
body_pass line w =
    let text = line.first ++ flat_map spaced line.others in
    pass_append is_inner text (blank_end (ends_open text)) (pass_append is_inner line.first (flat_map spaced line.others) (word_pass is_inner line.first plain_inner w.0) (others_pass line.others w.1)) (blank_passes (ends_open text))

body_words : (source : List ℕ) (place : ℕ) (line : Written) → AllByRecursion (IsWordOf is_plain) (line.first ∷ line.others) → Stands source place (body line) → map (bytes_at source) (words_from place true (body line)) ≡ line.first ∷ line.others
unfolding joined_words
body_words source place line w s =
    let text = line.first ++ flat_map spaced line.others in
    let e : body line ≡ line.first ++ (flat_map spaced line.others ++ blank_end (ends_open text)) = append_assoc line.first (flat_map spaced line.others) (blank_end (ends_open text)) in
    let P : List ℕ → Type 0 = Stands source place in
    ap (λ text. map (bytes_at source) (words_from place true text)) e ∙ words_of_line source place (ends_open text) line.first line.others w (subst P e s)

cut_joint_whole : (text : List ℕ) → ends_open text ≡ false → cut_joint text ≡ text
unfolding cut_joint
cut_joint_whole text e = ap (λ b. cond b (take (length text - 1) text) text) e

line_read : (source : List ℕ) (number place : ℕ) (line : Written) (spans : List Span) → AllByRecursion (IsWordOf is_plain) (line.first ∷ line.others) → Stands source place (body line) → map (entry_at source) (join_lines source number (span_at place (body line) ∷ spans)) ≡ record { number = number; words = line.first ∷ line.others } ∷ map (entry_at source) (join_lines source (number + 1) spans)
unfolding join_lines words_at
line_read source number place line spans w s =
    let k : content (bytes_at source (span_at place (body line))) ≡ body line = ap content s.is ∙ content_whole (body line) (body_pass line w) in
    let o : ends_open (content (bytes_at source (span_at place (body line)))) ≡ false = ap ends_open k ∙ padded_closed (joined_words line) in
    let c : cut_joint (content (bytes_at source (span_at place (body line)))) ≡ body line = cut_joint_whole (content (bytes_at source (span_at place (body line)))) o ∙ k in
    let t : map (bytes_at source) (words_from place true (cut_joint (content (bytes_at source (span_at place (body line)))))) ≡ line.first ∷ line.others = ap (λ text. map (bytes_at source) (words_from place true text)) c ∙ body_words source place line w s in
    rw (o, t) refl

line_ends : (line : Written) (rest : List ℕ) → line_text line ++ rest ≡ body line ++ 10 ∷ rest
unfolding line_text
line_ends line rest = ap (λ text. text ++ rest) (padded_ends (joined_words line)) ∙ append_assoc (body line) (10 ∷ []) rest

read_from : (source : List ℕ) (number place : ℕ) (lines : List Written) → AllByRecursion IsLineOfWords lines → Stands source place (lines_text lines) → map (entry_at source) (join_lines source number (parts_from 10 place true (lines_text lines))) ≡ numbered number lines
unfolding lines_text numbered parts_from join_lines
read_from source number place [] h s = refl
read_from source number place (line ∷ lines) h s =
    let w = are_words_of (line.first ∷ line.others) (recursion_from_All (λ word. is_word word ≡ true) (line.first ∷ line.others) h.0) in
    let P : List ℕ → Type 0 = Stands source place in
    let e : lines_text (line ∷ lines) ≡ body line ++ 10 ∷ lines_text lines = line_ends line (lines_text lines) in
    let t : Stands source place (body line ++ 10 ∷ lines_text lines) = subst P e s in
    let next = place + length (body line) + 1 in
    let behind : Stands source next (lines_text lines) = stands_rest source (place + length (body line)) 10 (lines_text lines) (second_stands source place (body line) (10 ∷ lines_text lines) t) in
    ap (λ (text : List ℕ). map (entry_at source) (join_lines source number (parts_from 10 place true text))) e ∙ ap (λ spans. map (entry_at source) (join_lines source number spans)) (parts_line place (body line) (lines_text lines) (body_pass line w)) ∙ line_read source number place line (parts_from 10 next true (lines_text lines)) w (first_stands source place (body line) (10 ∷ lines_text lines) t) ∙ ap (λ es. record { number = number; words = line.first ∷ line.others } ∷ es) (read_from source (number + 1) next lines h.1 behind)

-- a line without words would show
all_say : (source : List ℕ) (number : ℕ) (lines : List Line) (written : List Written) → map (entry_at source) lines ≡ numbered number written → filter has_words lines ≡ lines
unfolding numbered has_words
all_say source number [] written e = refl
all_say source number (line ∷ lines) [] e = absurd (omega (arith, ap length e))
all_say source number (line ∷ lines) (one ∷ written) e =
    step line.words refl (ap first_words e) (all_say source (number + 1) lines written (ap behind e))
  where
    first_words : List Entry → List (List ℕ)
    first_words [] = []
    first_words (entry ∷ entries) = entry.words

    behind : List Entry → List Entry
    behind [] = []
    behind (entry ∷ entries) = entries

    step : (spans : List Span) → line.words ≡ spans → map (bytes_at source) line.words ≡ one.first ∷ one.others → filter has_words lines ≡ lines → cond (not_empty spans) (line ∷ filter has_words lines) (filter has_words lines) ≡ line ∷ lines
    step [] w f g = absurd (omega (arith, ap length (sym (ap (map (bytes_at source)) w) ∙ f)))
    step (span ∷ spans) w f g = ap (λ ls. line ∷ ls) g

pub read_back : (lines : List Written) → All IsLineOfWords lines → entries_of (lines_text lines) ≡ numbered 1 lines
unfolding entries_of lines_of
read_back lines h =
    let source = lines_text lines in
    let e = read_from source 1 0 lines (recursion_from_All IsLineOfWords lines h) (whole_stands source) in
    ap (map (entry_at source)) (all_say source 1 (join_lines source 1 (physical_lines source)) lines e) ∙ e
