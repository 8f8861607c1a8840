-- One step of each walk over a text, and its end, as loops take them.
use Rattle.std.proofs.Common.{◌≡◌, ℕ, ◌+◌, ◌<◌, ◌≤◌, Bool, false, cond, List, [], ◌∷◌, ◌++◌, length, get_or, drop, refl, eqb, add_assoc, ◌&&◌, not, take, ap, map, arith, sym, ◌∙◌, ◌-◌, suc}
use Rattle.std.specs.List.{take_while, filter}
use Rattle.std.proofs.lemmas.List.Elements.{filter-append}
use Rattle.std.proofs.lemmas.List.Folds.{length-prefix_len}
use Rattle.std.proofs.lemmas.Bool.Decides.{nat_tests}
use Rattle.std.proofs.lemmas.List.{drop_more, drop_all}
use Rattle.sis_base.specs.Written.{is_blank, ends_open}
use Rattle.sis_text.specs.declared.places.Span.{Span}
use Rattle.sis_text.specs.Lines.{join_lines, has_words, not_empty}
use Rattle.sis_text.specs.Pieces.{piece_at, line_pieces, pieces_from}
use Rattle.sis_text.specs.Words.{word_len, words_from, part_len, parts_from}

pub words_more : (place i : ℕ) (after_blank : Bool) (xs : List ℕ) → i < length xs → words_from (place + i) after_blank (drop i xs) ≡ (cond (after_blank && not (is_blank (get_or xs i 0))) (record { place = place + i; len = word_len (drop i xs) } ∷ []) []) ++ words_from (place + (i + 1)) (is_blank (get_or xs i 0)) (drop (i + 1) xs)
unfolding words_from
words_more place i after_blank xs h = rw (drop_more xs i 0 h, add_assoc place i 1) refl

pub words_done : (place i : ℕ) (after_blank : Bool) (xs : List ℕ) → length xs ≤ i → words_from (place + i) after_blank (drop i xs) ≡ []
unfolding words_from
words_done place i after_blank xs h = rw (drop_all i xs h) refl

pub parts_more : (mark place i : ℕ) (after_mark : Bool) (xs : List ℕ) → i < length xs → parts_from mark (place + i) after_mark (drop i xs) ≡ (cond after_mark (record { place = place + i; len = part_len mark (drop i xs) } ∷ []) []) ++ parts_from mark (place + (i + 1)) (eqb (get_or xs i 0) mark) (drop (i + 1) xs)
unfolding parts_from
parts_more mark place i after_mark xs h = rw (drop_more xs i 0 h, add_assoc place i 1) refl

pub parts_done : (mark place i : ℕ) (after_mark : Bool) (xs : List ℕ) → length xs ≤ i → parts_from mark (place + i) after_mark (drop i xs) ≡ []
unfolding parts_from
parts_done mark place i after_mark xs h = rw (drop_all i xs h) refl

-- as many elements as pass at the front are those that pass
pub front_taken : (p : ℕ → Bool) (xs : List ℕ) → take (length (take_while p xs)) xs ≡ take_while p xs
front_taken p xs = ap (λ n. take n xs) (length-prefix_len p xs)

pub join_lines_done : (source : List ℕ) (number i : ℕ) (lines : List Span) → length lines ≤ i → join_lines source number (drop i lines) ≡ []
unfolding join_lines
join_lines_done source number i lines h = rw (drop_all i lines h) refl

abbrev nowhere : Span
nowhere = record { place = 0; len = 0 }

pub kept_more : (source : List ℕ) (number i : ℕ) (parts : List Span) → i < length parts → filter has_words (map (piece_at source number) (drop i parts)) ≡ filter has_words (piece_at source number (get_or parts i nowhere) ∷ []) ++ filter has_words (map (piece_at source number) (drop (i + 1) parts))
kept_more source number i parts h =
    rw (drop_more parts i nowhere h) (filter-append has_words (piece_at source number (get_or parts i nowhere) ∷ []) (map (piece_at source number) (drop (i + 1) parts)))

pub kept_done : (source : List ℕ) (number i : ℕ) (parts : List Span) → length parts ≤ i → filter has_words (map (piece_at source number) (drop i parts)) ≡ []
kept_done source number i parts h = rw (drop_all i parts h) refl

pub pieces_more : (source : List ℕ) (number i : ℕ) (lines : List Span) → i < length lines → filter has_words (pieces_from source number (drop i lines)) ≡ filter has_words (line_pieces source number (get_or lines i nowhere)) ++ filter has_words (pieces_from source (number + 1) (drop (i + 1) lines))
unfolding pieces_from
pieces_more source number i lines h =
    rw (drop_more lines i nowhere h) (filter-append has_words (line_pieces source number (get_or lines i nowhere)) (pieces_from source (number + 1) (drop (i + 1) lines)))

pub pieces_done : (source : List ℕ) (number i : ℕ) (lines : List Span) → length lines ≤ i → filter has_words (pieces_from source number (drop i lines)) ≡ []
unfolding pieces_from
pieces_done source number i lines h = rw (drop_all i lines h) refl

-- the last byte is that before the length
pub open_tested : (text : List ℕ) → ends_open text ≡ eqb (get_or text (length text - 1) 0) 92
unfolding ends_open
open_tested [] = refl
open_tested (byte ∷ []) = refl
open_tested (byte ∷ next ∷ bytes) =
    let e : length (byte ∷ next ∷ bytes) - 1 ≡ suc (length (next ∷ bytes) - 1) = omega arith in
    open_tested (next ∷ bytes) ∙ sym (ap (λ n. eqb (get_or (byte ∷ next ∷ bytes) n 0) 92) e)

pub none_open : (text : List ℕ) → length text ≡ 0 → ends_open text ≡ false
unfolding ends_open
none_open [] e = refl
none_open (byte ∷ bytes) e = absurd (omega arith)

-- a list is empty where its length is 0
pub empty_tested : {A : Type 0} (xs : List A) → eqb (length xs) 0 ≡ not (not_empty xs)
empty_tested [] = refl
empty_tested (x ∷ xs) = grind (arith, nat_tests)
