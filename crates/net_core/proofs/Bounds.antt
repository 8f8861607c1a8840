-- A circuit that is read keeps the bounds within which literals are counted.
use Rattle.std.proofs.Common.{List, [], ◌∷◌, arith}
use Rattle.std.specs.List.{AllByRecursion}
use Rattle.circuit_model.specs.Counts.{IsSmallTable, IsWithinLimits}
use Rattle.circuit_model.specs.declared.circuit.Table.{Table}
use Rattle.circuit_model.specs.declared.circuit.Circuit.{Circuit}
use Rattle.net_core.specs.Reads.{IsBounded, HasBounds}

small_bounded : (tables : List Table) → AllByRecursion IsSmallTable tables → AllByRecursion IsBounded tables
small_bounded [] h = tt
small_bounded (table ∷ tables) h = (record { rows = omega (arith, h.0.rows); inputs = omega (arith, h.0.inputs) }, small_bounded tables h.1)

pub bounds_read : (circuit : Circuit) → IsWithinLimits circuit → HasBounds circuit
bounds_read circuit h = record { nodes = omega (arith, h.nodes); tables = small_bounded circuit.tables h.tables }
