use Rattle.std.proofs.Common.{◌≡◌, take}
use Rattle.cube_cover.specs.Covers.{Shape}
use Rattle.alg_div.specs.Cubes.{Has}
use Rattle.alg_kernel.specs.Kernels.{rows_in}
use Rattle.alg_kernel.specs.Search.{kernels_in}
use Rattle.alg_kernel.proofs.list.covers_of.Given as goal

abbrev pub invariant-loop-kernel : goal.invariant-loop-kernel
invariant-loop-kernel g l = record {
  rows : rows_in l.made.items ≡ kernels_in (take l.kernel-index l.kernels);
  widths : (cover : Shape) → Has cover l.made.items → cover.width ≡ l.width;
}
