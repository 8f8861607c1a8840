use Rattle.std.proofs.Common.{◌≡◌, take}
use Rattle.sis_base.proofs.sequence.SequenceCopied.copy.Given as goal

abbrev pub invariant-loop-item : goal.invariant-loop-item
invariant-loop-item g l = l.made.items ≡ take l.item-index l.item-items
