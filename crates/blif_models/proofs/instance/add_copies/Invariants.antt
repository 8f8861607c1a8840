use Rattle.std.proofs.Common.{◌≡◌, ◌++◌, take}
use Rattle.blif_models.proofs.instance.add_copies.Given as goal

abbrev pub invariant-loop-word : goal.invariant-loop-word
invariant-loop-word l = l.out ≡ l.fn.out ++ take l.word-index l.words
