-- A script has no more commands than bytes.
use Rattle.std.proofs.Common.{ℕ, ◌+◌, ◌≤◌, Bool, true, false, cond, List, [], ◌∷◌, ◌++◌, length, drop, arith, suc, length-append, eqb, not}
use Rattle.std.specs.List.{filter, prefix_len}
use Rattle.std.proofs.lemmas.List.{length-map, length-take}
use Rattle.sis_text.specs.declared.places.Span.{Span}
use Rattle.sis_text.specs.Entries.{entry_at, script_entries_of}
use Rattle.sis_text.specs.Lines.{cut_comment, has_words, physical_lines}
use Rattle.sis_text.specs.Order.{AreInOrder}
use Rattle.sis_text.specs.Pieces.{piece_at, line_pieces, pieces_from, pieces_of}
use Rattle.sis_text.specs.Words.{bytes_at, part_len, parts_from}
use Rattle.sis_text.proofs.Ordered.{lines_order}
use Rattle.sis_script.specs.Script.{command_of}
use Rattle.sis_session.specs.Commands.{commands_in}

parts_few : (mark place : ℕ) (after : Bool) (text : List ℕ) → length (parts_from mark place after text) ≤ length text
unfolding parts_from
parts_few mark place after [] = omega arith
parts_few mark place after (byte ∷ rest) = step after (parts_from mark (place + 1) (eqb byte mark) rest) (parts_few mark (place + 1) (eqb byte mark) rest)
  where
    step : (b : Bool) (others : List Span) → length others ≤ length rest → length (cond b (record { place = place; len = part_len mark (byte ∷ rest) } ∷ []) [] ++ others) ≤ suc (length rest)
    step true others h = omega (arith, h)
    step false others h = omega (arith, h)

filtered_few : {X : Type 0} (test : X → Bool) (xs : List X) → length (filter test xs) ≤ length xs
filtered_few test [] = omega arith
filtered_few test (x ∷ xs) = step (test x) (filtered_few test xs)
  where
    step : (b : Bool) → length (filter test xs) ≤ length xs → length (cond b (x ∷ filter test xs) (filter test xs)) ≤ suc (length xs)
    step true h = omega (arith, h)
    step false h = omega (arith, h)

line_few : (source : List ℕ) (number : ℕ) (line : Span) → length (line_pieces source number line) ≤ line.len
unfolding line_pieces cut_comment
line_few source number line = omega (
  arith,
  length-map (parts_from 59 line.place true (cut_comment (bytes_at source line))) (piece_at source number),
  parts_few 59 line.place true (cut_comment (bytes_at source line)),
  length-take (prefix_len (λ byte. not (eqb byte 35)) (bytes_at source line)) (bytes_at source line),
  length-take line.len (drop line.place source),
)

lines_few : (source : List ℕ) (number from limit : ℕ) (lines : List Span) → from ≤ limit → AreInOrder from limit lines
    → from + length (pieces_from source number lines) ≤ limit
unfolding pieces_from AreInOrder
lines_few source number from limit [] h o = omega (arith, h)
lines_few source number from limit (line ∷ lines) h o = omega (
  arith,
  o.0,
  length-append (line_pieces source number line) (pieces_from source (number + 1) lines),
  line_few source number line,
  lines_few source (number + 1) (line.place + line.len) limit lines o.1 o.2,
)

pub commands_short : (text : List ℕ) → length (commands_in text) ≤ length text
unfolding script_entries_of pieces_of
commands_short text = omega (
  arith,
  length-map (script_entries_of text) command_of,
  length-map (pieces_of text) (entry_at text),
  filtered_few has_words (pieces_from text 1 (physical_lines text)),
  lines_few text 1 0 (length text) (physical_lines text) (omega arith) (lines_order text),
)
