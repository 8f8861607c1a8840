-- Words and parts are inside their text and in order.
use Rattle.std.proofs.Common.{◌≡◌, ℕ, ◌+◌, ◌-◌, ◌≤◌, Bool, true, false, cond, List, [], ◌∷◌, ◌++◌, length, take, drop, refl, sym, ◌∙◌, ap, subst, eqb, map, not, ◌&&◌, arith, suc}
use Rattle.std.specs.List.{filter, prefix_len, suffix_len, flat_map}
use Rattle.std.proofs.lemmas.List.{length-take, append_assoc}
use Rattle.std.proofs.lemmas.List.Folds.{length-prefix_len}
use Rattle.std.proofs.lemmas.List.Sums.{prefix_len-le-length}
use Rattle.sis_base.specs.Written.{is_blank, ends_open}
use Rattle.sis_text.specs.declared.places.Span.{Span}
use Rattle.sis_text.specs.declared.places.Line.{Line}
use Rattle.sis_text.specs.Words.{bytes_at, word_len, words_from, part_len, parts_from}
use Rattle.sis_text.specs.Lines.{cut_comment, trim_returns, content, cut_joint, words_at, prepend, join_lines, has_words, not_empty, lines_of, physical_lines}
use Rattle.sis_text.specs.Pieces.{piece_at, line_pieces, pieces_from, pieces_of}
use Rattle.sis_text.specs.Order.{AreInOrder, words_in}

-- from an earlier position on, up to a later limit
pub order_wider : (low from limit high : ℕ) (spans : List Span) → low ≤ from → limit ≤ high → AreInOrder from limit spans → AreInOrder low high spans
unfolding AreInOrder
order_wider low from limit high [] l h o = tt
order_wider low from limit high (span ∷ spans) l h o =
    (omega (arith, o.0), omega (arith, o.1), order_wider (span.place + span.len) (span.place + span.len) limit high spans (omega arith) h o.2)

pub order_append : (from middle limit : ℕ) (xs ys : List Span) → from ≤ middle → middle ≤ limit → AreInOrder from middle xs → AreInOrder middle limit ys → AreInOrder from limit (xs ++ ys)
unfolding AreInOrder
order_append from middle limit [] ys f m x y = order_wider from middle limit limit ys f (omega arith) y
order_append from middle limit (span ∷ xs) ys f m x y =
    (x.0, omega (arith, x.1), order_append (span.place + span.len) middle limit xs ys x.1 m x.2 y)

-- what lies in each of some spans in order is in order
pub order_flat : (f : Span → List Span) (from limit : ℕ) (spans : List Span) → ((span : Span) → AreInOrder span.place (span.place + span.len) (f span)) → AreInOrder from limit spans → AreInOrder from limit (flat_map f spans)
unfolding AreInOrder
order_flat f from limit [] each o = tt
order_flat f from limit (span ∷ spans) each o =
    let whole = order_append span.place (span.place + span.len) limit (f span) (flat_map f spans) (omega arith) o.1 (each span) (order_flat f (span.place + span.len) limit spans each o.2) in
    order_wider from span.place limit limit (f span ++ flat_map f spans) o.0 (omega arith) whole

word_len-cons : (byte : ℕ) (rest : List ℕ) → word_len (byte ∷ rest) ≡ cond (is_blank byte) 0 (1 + word_len rest)
unfolding word_len
word_len-cons byte rest =
    length-prefix_len (λ byte. not (is_blank byte)) (byte ∷ rest) ∙ step (is_blank byte) (length-prefix_len (λ byte. not (is_blank byte)) rest)
  where
    step : (b : Bool) → word_len rest ≡ prefix_len (λ byte. not (is_blank byte)) rest → cond (not b) (1 + prefix_len (λ byte. not (is_blank byte)) rest) 0 ≡ cond b 0 (1 + word_len rest)
    step true e = refl
    step false e = ap (λ n. 1 + n) (sym e)

word_len-le : (text : List ℕ) → word_len text ≤ length text
unfolding word_len
word_len-le text = rw (length-prefix_len (λ byte. not (is_blank byte)) text) (prefix_len-le-length (λ byte. not (is_blank byte)) text)

words_order : (place : ℕ) (after_blank : Bool) (text : List ℕ) → AreInOrder (cond after_blank place (place + word_len text)) (place + length text) (words_from place after_blank text)
unfolding words_from AreInOrder
words_order place after_blank [] = tt
words_order place after_blank (byte ∷ rest) =
    step after_blank (is_blank byte) (word_len (byte ∷ rest)) (word_len-cons byte rest) (words_from (place + 1) (is_blank byte) rest) (words_order (place + 1) (is_blank byte) rest)
  where
    step : (after blank : Bool) (len : ℕ) → len ≡ cond blank 0 (1 + word_len rest) → (others : List Span) → AreInOrder (cond blank (place + 1) (place + 1 + word_len rest)) (place + 1 + length rest) others → AreInOrder (cond after place (place + len)) (place + suc (length rest)) (cond (after && not blank) (record { place = place; len = len } ∷ []) [] ++ others)
    step true true len e others o = order_wider place (place + 1) (place + 1 + length rest) (place + suc (length rest)) others (omega arith) (omega arith) o
    step false true len e others o = order_wider (place + len) (place + 1) (place + 1 + length rest) (place + suc (length rest)) others (omega arith) (omega arith) o
    step true false len e others o =
        (omega arith, omega (arith, word_len-le rest), order_wider (place + len) (place + 1 + word_len rest) (place + 1 + length rest) (place + suc (length rest)) others (omega arith) (omega arith) o)
    step false false len e others o = order_wider (place + len) (place + 1 + word_len rest) (place + 1 + length rest) (place + suc (length rest)) others (omega arith) (omega arith) o

part_len-cons : (mark byte : ℕ) (rest : List ℕ) → part_len mark (byte ∷ rest) ≡ cond (eqb byte mark) 0 (1 + part_len mark rest)
unfolding part_len
part_len-cons mark byte rest =
    length-prefix_len (λ byte. not (eqb byte mark)) (byte ∷ rest) ∙ step (eqb byte mark) (length-prefix_len (λ byte. not (eqb byte mark)) rest)
  where
    step : (b : Bool) → part_len mark rest ≡ prefix_len (λ byte. not (eqb byte mark)) rest → cond (not b) (1 + prefix_len (λ byte. not (eqb byte mark)) rest) 0 ≡ cond b 0 (1 + part_len mark rest)
    step true e = refl
    step false e = ap (λ n. 1 + n) (sym e)

part_len-le : (mark : ℕ) (text : List ℕ) → part_len mark text ≤ length text
unfolding part_len
part_len-le mark text = rw (length-prefix_len (λ byte. not (eqb byte mark)) text) (prefix_len-le-length (λ byte. not (eqb byte mark)) text)

parts_order : (mark place : ℕ) (after_mark : Bool) (text : List ℕ) → AreInOrder (cond after_mark place (place + part_len mark text)) (place + length text) (parts_from mark place after_mark text)
unfolding parts_from AreInOrder
parts_order mark place after_mark [] = tt
parts_order mark place after_mark (byte ∷ rest) =
    step after_mark (eqb byte mark) (part_len mark (byte ∷ rest)) (part_len-cons mark byte rest) (parts_from mark (place + 1) (eqb byte mark) rest) (parts_order mark (place + 1) (eqb byte mark) rest)
  where
    step : (after mark_here : Bool) (len : ℕ) → len ≡ cond mark_here 0 (1 + part_len mark rest) → (others : List Span) → AreInOrder (cond mark_here (place + 1) (place + 1 + part_len mark rest)) (place + 1 + length rest) others → AreInOrder (cond after place (place + len)) (place + suc (length rest)) (cond after (record { place = place; len = len } ∷ []) [] ++ others)
    step true true len e others o = (omega arith, omega arith, order_wider (place + len) (place + 1) (place + 1 + length rest) (place + suc (length rest)) others (omega arith) (omega arith) o)
    step false true len e others o = order_wider (place + len) (place + 1) (place + 1 + length rest) (place + suc (length rest)) others (omega arith) (omega arith) o
    step true false len e others o =
        (omega arith, omega (arith, part_len-le mark rest), order_wider (place + len) (place + 1 + part_len mark rest) (place + 1 + length rest) (place + suc (length rest)) others (omega arith) (omega arith) o)
    step false false len e others o = order_wider (place + len) (place + 1 + part_len mark rest) (place + 1 + length rest) (place + suc (length rest)) others (omega arith) (omega arith) o

pub words_in_order : (line : List ℕ) → AreInOrder 0 (length line) (words_from 0 true line)
words_in_order line = order_wider 0 0 (0 + length line) (length line) (words_from 0 true line) (omega arith) (omega arith) (words_order 0 true line)

-- the words of a line lie in it
content_shorter : (line : List ℕ) → length (cut_joint (content line)) ≤ length line
unfolding cut_joint trim_returns cut_comment
content_shorter line =
    step (ends_open (content line)) (omega (arith, length-take (length (cut_comment line) - suffix_len (λ byte. eqb byte 13) (cut_comment line)) (cut_comment line), length-take (prefix_len (λ byte. not (eqb byte 35)) line) line))
  where
    step : (b : Bool) → length (content line) ≤ length line → length (cond b (take (length (content line) - 1) (content line)) (content line)) ≤ length line
    step true h = omega (arith, length-take (length (content line) - 1) (content line))
    step false h = h

words_at_order : (source : List ℕ) (line : Span) → AreInOrder line.place (line.place + line.len) (words_at source line)
unfolding words_at
words_at_order source line =
    order_wider line.place line.place (line.place + length (cut_joint (content (bytes_at source line)))) (line.place + line.len) (words_at source line) (omega arith) (omega (arith, content_shorter (bytes_at source line), length-take line.len (drop line.place source))) (words_order line.place true (cut_joint (content (bytes_at source line))))

pub lines_order : (source : List ℕ) → AreInOrder 0 (length source) (physical_lines source)
lines_order source = order_wider 0 0 (0 + length source) (length source) (physical_lines source) (omega arith) (omega arith) (parts_order 10 0 true source)

-- all words of logical lines are those of the physical lines
prepend_words : (number : ℕ) (words : List Span) (lines : List Line) → words_in (prepend number words lines) ≡ words ++ words_in lines
unfolding prepend
prepend_words number words [] = refl
prepend_words number words (l ∷ lines) = append_assoc words l.words (words_in lines)

pub join_lines_words : (source : List ℕ) (number : ℕ) (lines : List Span) → words_in (join_lines source number lines) ≡ flat_map (words_at source) lines
unfolding join_lines
join_lines_words source number [] = refl
join_lines_words source number (line ∷ lines) =
    step (ends_open (content (bytes_at source line))) (join_lines_words source (number + 1) lines)
  where
    step : (b : Bool) → words_in (join_lines source (number + 1) lines) ≡ flat_map (words_at source) lines → words_in (cond b (prepend number (words_at source line) (join_lines source (number + 1) lines)) (record { number = number; words = words_at source line } ∷ join_lines source (number + 1) lines)) ≡ words_at source line ++ flat_map (words_at source) lines
    step true e = prepend_words number (words_at source line) (join_lines source (number + 1) lines) ∙ ap (λ ws. words_at source line ++ ws) e
    step false e = ap (λ ws. words_at source line ++ ws) e

pub filtered_words : (lines : List Line) → words_in (filter has_words lines) ≡ words_in lines
unfolding has_words
filtered_words [] = refl
filtered_words (l ∷ lines) = step l.words refl (filtered_words lines)
  where
    step : (ws : List Span) → l.words ≡ ws → words_in (filter has_words lines) ≡ words_in lines → words_in (cond (not_empty ws) (l ∷ filter has_words lines) (filter has_words lines)) ≡ l.words ++ words_in lines
    step [] w e = e ∙ ap (λ xs. xs ++ words_in lines) (sym w)
    step (x ∷ ws) w e = ap (λ xs. l.words ++ xs) e

pub lines_words : (source : List ℕ) → words_in (lines_of source) ≡ flat_map (words_at source) (physical_lines source)
unfolding lines_of
lines_words source = filtered_words (join_lines source 1 (physical_lines source)) ∙ join_lines_words source 1 (physical_lines source)

pub lines_in_order : (source : List ℕ) → AreInOrder 0 (length source) (words_in (lines_of source))
lines_in_order source =
    let P : List Span → Type 0 = AreInOrder 0 (length source) in
    subst P (sym (lines_words source)) (order_flat (words_at source) 0 (length source) (physical_lines source) (words_at_order source) (lines_order source))

-- the same of the pieces of a script
abbrev pub piece_words : List ℕ → Span → List Span
piece_words source part = words_from part.place true (bytes_at source part)

abbrev pub line_piece_words : List ℕ → Span → List Span
line_piece_words source line = flat_map (piece_words source) (parts_from 59 line.place true (cut_comment (bytes_at source line)))

parts_words : (source : List ℕ) (number : ℕ) (parts : List Span) → words_in (map (piece_at source number) parts) ≡ flat_map (piece_words source) parts
unfolding piece_at
parts_words source number [] = refl
parts_words source number (part ∷ parts) = ap (λ ws. piece_words source part ++ ws) (parts_words source number parts)

words_in-append : (xs ys : List Line) → words_in (xs ++ ys) ≡ words_in xs ++ words_in ys
words_in-append [] ys = refl
words_in-append (x ∷ xs) ys = ap (λ ws. x.words ++ ws) (words_in-append xs ys) ∙ sym (append_assoc x.words (words_in xs) (words_in ys))

pieces_from_words : (source : List ℕ) (number : ℕ) (lines : List Span) → words_in (pieces_from source number lines) ≡ flat_map (line_piece_words source) lines
unfolding pieces_from line_pieces
pieces_from_words source number [] = refl
pieces_from_words source number (line ∷ lines) =
    words_in-append (line_pieces source number line) (pieces_from source (number + 1) lines) ∙ ap (λ ws. ws ++ words_in (pieces_from source (number + 1) lines)) (parts_words source number (parts_from 59 line.place true (cut_comment (bytes_at source line)))) ∙ ap (λ ws. line_piece_words source line ++ ws) (pieces_from_words source (number + 1) lines)

pub pieces_words : (source : List ℕ) → words_in (pieces_of source) ≡ flat_map (line_piece_words source) (physical_lines source)
unfolding pieces_of
pieces_words source = filtered_words (pieces_from source 1 (physical_lines source)) ∙ pieces_from_words source 1 (physical_lines source)

piece_order : (source : List ℕ) (part : Span) → AreInOrder part.place (part.place + part.len) (piece_words source part)
piece_order source part =
    order_wider part.place part.place (part.place + length (bytes_at source part)) (part.place + part.len) (piece_words source part) (omega arith) (omega (arith, length-take part.len (drop part.place source))) (words_order part.place true (bytes_at source part))

line_piece_order : (source : List ℕ) (line : Span) → AreInOrder line.place (line.place + line.len) (line_piece_words source line)
unfolding cut_comment
line_piece_order source line =
    let parts : AreInOrder line.place (line.place + line.len) (parts_from 59 line.place true (cut_comment (bytes_at source line))) =
    order_wider line.place line.place (line.place + length (cut_comment (bytes_at source line))) (line.place + line.len) (parts_from 59 line.place true (cut_comment (bytes_at source line))) (omega arith) (omega (arith, length-take (prefix_len (λ byte. not (eqb byte 35)) (bytes_at source line)) (bytes_at source line), length-take line.len (drop line.place source))) (parts_order 59 line.place true (cut_comment (bytes_at source line))) in
    order_flat (piece_words source) line.place (line.place + line.len) (parts_from 59 line.place true (cut_comment (bytes_at source line))) (piece_order source) parts

pub pieces_in_order : (source : List ℕ) → AreInOrder 0 (length source) (words_in (pieces_of source))
pieces_in_order source =
    let P : List Span → Type 0 = AreInOrder 0 (length source) in
    subst P (sym (pieces_words source)) (order_flat (line_piece_words source) 0 (length source) (physical_lines source) (line_piece_order source) (lines_order source))
