use Rattle.std.proofs.Common.{◌≡◌, ◌++◌}
use Rattle.std.specs.Iterator.Adapters.{zip_first, zip_second}
use Rattle.std.specs.Slice.Iter.{iter_rest}
use Rattle.cover_names.specs.Cubes.{cube_over}
use Rattle.cover_names.proofs.cubes.cube_over.Given as goal

abbrev pub invariant-loop-name : goal.invariant-loop-name
invariant-loop-name l = l.literals.items ++ cube_over (iter_rest (zip_first l.name-iterator)) (iter_rest (zip_second l.name-iterator)) ≡ cube_over l.names l.row
