use Rattle.std.proofs.Common.{◌≡◌, ◌++◌, drop, map}
use Rattle.std.specs.List.{filter}
use Rattle.sis_text.specs.Lines.{has_words}
use Rattle.sis_text.specs.Pieces.{piece_at}
use Rattle.sis_text.proofs.scripts.add_pieces.Given as goal

abbrev pub invariant-loop-i : goal.invariant-loop-i
invariant-loop-i l =
    l.lines ++ filter has_words (map (piece_at l.source l.number) (drop l.i l.parts)) ≡ l.fn.lines ++ filter has_words (map (piece_at l.source l.number) l.parts)
