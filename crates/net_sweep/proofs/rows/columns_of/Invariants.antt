use Rattle.std.proofs.Common.{◌≡◌, map, take, bytes_eq}
use Rattle.net_sweep.proofs.rows.columns_of.Given as goal

abbrev pub invariant-loop-input : goal.invariant-loop-input
invariant-loop-input l = l.marks.items ≡ map (bytes_eq l.name) (take l.input-index l.inputs)
