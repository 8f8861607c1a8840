use Rattle.std.proofs.Common.{◌≡◌, map, take}
use Rattle.line_words.specs.LineWords.{character_of}
use Rattle.line_words.proofs.taking.characters.Given as goal

abbrev pub invariant-loop-byte : goal.invariant-loop-byte
invariant-loop-byte l = l.row ≡ map character_of (take l.byte-index l.bytes)
