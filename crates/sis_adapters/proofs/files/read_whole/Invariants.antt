use Rattle.std.proofs.Common.{◌+◌, ◌-◌, ◌≡◌, vec_len, length}
use Rattle.sis_adapters.proofs.files.read_whole.Given as goal

abbrev pub invariant-loop-piece : goal.invariant-loop-piece
invariant-loop-piece g l = length l.piece ≡ 65536

abbrev pub decreases-loop-piece : goal.decreases-loop-piece
decreases-loop-piece g l = l.max + 1 - vec_len l.bytes
