use Rattle.std.proofs.Common.{◌≡◌, ◌+◌, length}
use Rattle.std.specs.Iterator.Adapters.{zip_first, zip_second}
use Rattle.std.specs.Slice.Iter.{iter_rest}
use Rattle.cover_names.specs.Literals.{cover_cmp}
use Rattle.cover_names.proofs.cubes.compare_covers.Given as goal

abbrev pub invariant-loop-cube : goal.invariant-loop-cube
invariant-loop-cube l = record {
  order : cover_cmp (iter_rest (zip_first l.cube-iterator)) (iter_rest (zip_second l.cube-iterator)) ≡ cover_cmp l.one l.other;
  lengths : length l.one + length (iter_rest (zip_second l.cube-iterator)) ≡ length l.other + length (iter_rest (zip_first l.cube-iterator));
}
