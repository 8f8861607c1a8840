use Rattle.std.proofs.Common.{◌≡◌, map, take}
use Rattle.cover_names.specs.Cubes.{literal_of}
use Rattle.cover_names.proofs.cubes.row_over.Given as goal

abbrev pub invariant-loop-name : goal.invariant-loop-name
invariant-loop-name l = l.row.items ≡ map (literal_of l.cube) (take l.name-index l.names)
