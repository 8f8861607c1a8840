use Rattle.std.proofs.Common.{◌≡◌, take, map}
use Rattle.sis_text.specs.Words.{bytes_at}
use Rattle.sis_script.proofs.script.raw_words.Given as goal

abbrev pub invariant-loop-word : goal.invariant-loop-word
invariant-loop-word l = l.made ≡ map (bytes_at l.source) (take l.word-index l.words)
