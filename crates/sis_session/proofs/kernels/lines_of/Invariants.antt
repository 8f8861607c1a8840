use Rattle.std.proofs.Common.{◌≡◌, flat_map, take}
use Rattle.alg_kernel.specs.Kernels.{rows_in}
use Rattle.sis_session.specs.Told.{kernel_line}
use Rattle.sis_session.proofs.kernels.lines_of.Given as goal

abbrev pub invariant-loop-cover : goal.invariant-loop-cover
invariant-loop-cover l = l.text.items ≡ flat_map (kernel_line l.names) (rows_in (take l.cover-index l.covers))
