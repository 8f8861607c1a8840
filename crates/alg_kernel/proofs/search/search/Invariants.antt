use Rattle.std.proofs.Common.{◌≤◌, ◌+◌, ◌-◌, ◌*◌, length}
use Rattle.alg_div.specs.Steps.{literals_in}
use Rattle.alg_kernel.specs.Search.{kernels_in, IsSearch}
use Rattle.alg_kernel.proofs.search.search.Given as goal
use Rattle.sis_base.specs.declared.limits.TheConstants.{MAX_KERNELS}

abbrev pub invariant-loop-kernel : goal.invariant-loop-kernel
invariant-loop-kernel l = record {
  search_ : IsSearch l.width (literals_in l.rows) (kernels_in l.seen.items) (kernels_in l.todo.items);
  room : length (kernels_in l.seen.items) ≤ MAX_KERNELS;
}

abbrev pub decreases-loop-kernel : goal.decreases-loop-kernel
decreases-loop-kernel l = length (kernels_in l.todo.items) + 2 * (MAX_KERNELS - length (kernels_in l.seen.items))
