use Rattle.std.proofs.Common.{◌≡◌, ◌++◌, take, map}
use Rattle.circuit_model.specs.Text.{character}
use Rattle.line_words.proofs.putting.put_characters.Given as goal

abbrev pub invariant-loop-place : goal.invariant-loop-place
invariant-loop-place l = l.out.items ≡ l.fn.out.items ++ map character (take l.place-index l.row)
