use Rattle.alg_div.specs.Steps.{literals_in}
use Rattle.alg_kernel.specs.Search.{kernels_in, IsStep, IsMore, IsExploredTo}
use Rattle.alg_kernel.proofs.search.explore.Given as goal

abbrev pub invariant-loop-place : goal.invariant-loop-place
invariant-loop-place l = record {
  more : IsMore (IsStep (literals_in l.kernel)) (kernels_in l.fn.seen.items) (kernels_in l.fn.todo.items) (kernels_in l.seen.items) (kernels_in l.todo.items);
  to : IsExploredTo l.place (kernels_in l.seen.items) (literals_in l.kernel);
}
