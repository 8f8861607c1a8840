use Rattle.std.proofs.Common.{◌≡◌, ◌++◌, drop}
use Rattle.cover_names.specs.Cubes.{names_in}
use Rattle.alg_tables.proofs.dividing.all_names.Given as goal

abbrev pub invariant-loop-cube : goal.invariant-loop-cube
invariant-loop-cube l = l.names.items ++ names_in (drop l.cube-index l.cover) ≡ names_in l.cover
