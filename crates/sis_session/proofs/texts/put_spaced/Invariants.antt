use Rattle.std.proofs.Common.{◌≡◌, ◌++◌, take}
use Rattle.std.specs.List.{flat_map}
use Rattle.sis_base.specs.Written.{spaced}
use Rattle.sis_session.proofs.texts.put_spaced.Given as goal

abbrev pub invariant-loop-word : goal.invariant-loop-word
invariant-loop-word l = l.out.items ≡ l.fn.out.items ++ flat_map spaced (take l.word-index l.words)
