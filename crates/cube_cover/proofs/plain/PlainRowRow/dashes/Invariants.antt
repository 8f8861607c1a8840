use Rattle.std.proofs.Common.{◌≡◌, None, replicate}
use Rattle.cube_cover.proofs.plain.PlainRowRow.dashes.Given as goal

abbrev pub invariant-loop-filled : goal.invariant-loop-filled
invariant-loop-filled l = l.literals ≡ replicate l._filled None
