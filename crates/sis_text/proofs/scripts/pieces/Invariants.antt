use Rattle.std.proofs.Common.{◌≡◌, ◌+◌, ◌++◌, drop}
use Rattle.std.specs.List.{filter}
use Rattle.sis_text.specs.Lines.{has_words}
use Rattle.sis_text.specs.Pieces.{pieces_from}
use Rattle.sis_text.proofs.scripts.pieces.Given as goal

abbrev pub invariant-loop-i : goal.invariant-loop-i
invariant-loop-i l =
    l.lines ++ filter has_words (pieces_from l.source (l.i + 1) (drop l.i l.physical)) ≡ filter has_words (pieces_from l.source 1 l.physical)
