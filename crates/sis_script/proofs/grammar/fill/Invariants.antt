use Rattle.std.proofs.Common.{◌≡◌, map, drop}
use Rattle.sis_text.specs.Words.{bytes_at}
use Rattle.sis_script.specs.Grammar.{fill}
use Rattle.sis_script.proofs.Filling.{with_values}
use Rattle.sis_script.proofs.grammar.fill.Given as goal

abbrev pub invariant-loop-i : goal.invariant-loop-i
invariant-loop-i l =
    with_values l.values (fill (drop l.i l.slots) (map (bytes_at l.source) (drop l.i l.words))) ≡ fill l.slots (map (bytes_at l.source) l.words)
