use Rattle.std.proofs.Common.{◌≡◌, map, take}
use Rattle.alg_kernel.specs.Kernels.{rows_in}
use Rattle.cover_names.specs.Cubes.{cover_over}
use Rattle.net_candidates.proofs.own.covers_over.Given as goal

abbrev pub invariant-loop-kernel : goal.invariant-loop-kernel
invariant-loop-kernel g l = l.made.items ≡ map (cover_over l.names) (rows_in (take l.kernel-index l.kernels))
