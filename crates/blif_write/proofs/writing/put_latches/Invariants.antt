use Rattle.std.proofs.Common.{◌≡◌, ◌++◌, take, map}
use Rattle.sis_base.specs.Written.{lines_text}
use Rattle.circuit_model.specs.Text.{latch_line}
use Rattle.blif_write.proofs.writing.put_latches.Given as goal

abbrev pub invariant-loop-latch : goal.invariant-loop-latch
invariant-loop-latch l = l.out.items ≡ l.fn.out.items ++ lines_text (map (latch_line l.timing) (take l.latch-index l.latches))
