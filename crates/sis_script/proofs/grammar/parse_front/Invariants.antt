use Rattle.std.proofs.Common.{◌≡◌, map, length}
use Rattle.sis_text.specs.Words.{bytes_at}
use Rattle.sis_script.specs.Grammar.{Front, parse_at}
use Rattle.sis_script.proofs.Filling.{with_options}
use Rattle.sis_script.proofs.grammar.parse_front.Given as goal

abbrev pub invariant-loop-option : goal.invariant-loop-option
invariant-loop-option l =
    with_options l.given (parse_at Front l.left.items l.slots (map (bytes_at l.source) l.rest))
    ≡ parse_at Front l.options l.slots (map (bytes_at l.source) l.words)

abbrev pub decreases-loop-option : goal.decreases-loop-option
decreases-loop-option l = length l.rest
