use Rattle.std.proofs.Common.{◌≡◌, map, take}
use Rattle.sis_text.specs.Words.{bytes_at}
use Rattle.sis_text.proofs.places.texts_at.Given as goal

abbrev pub invariant-loop-span : goal.invariant-loop-span
invariant-loop-span l = map (λ text. text.now) l.texts.items ≡ map (bytes_at l.source) (take l.span-index l.spans)
