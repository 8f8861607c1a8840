use Rattle.std.proofs.Common.{◌≡◌, ◌++◌, map, drop}
use Rattle.circuit_tables.specs.Tidy.{used_places}
use Rattle.circuit_tables.proofs.rows.used_places.Given as goal

abbrev pub invariant-loop-place : goal.invariant-loop-place
invariant-loop-place l = l.marks.items ++ used_places (drop l.place l.inputs) (map (drop l.place) l.rows) ≡ used_places l.inputs l.rows
