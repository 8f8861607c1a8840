use Rattle.std.proofs.Common.{◌≡◌, drop}
use Rattle.cover_names.specs.Cubes.{is_over}
use Rattle.alg_tables.proofs.dividing.is_cover_over.Given as goal

abbrev pub invariant-loop-cube : goal.invariant-loop-cube
invariant-loop-cube l = is_over l.names l.cover ≡ is_over l.names (drop l.cube-index l.cover)
