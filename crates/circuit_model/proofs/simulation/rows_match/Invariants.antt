use Rattle.std.proofs.Common.{◌≡◌, map, drop}
use Rattle.circuit_model.specs.Levels.{bit_at}
use Rattle.sis_base.specs.Rows.{some_matches}
use Rattle.circuit_model.specs.Values.{literal_of}
use Rattle.circuit_model.proofs.simulation.rows_match.Given as goal

abbrev pub invariant-loop-row : goal.invariant-loop-row
invariant-loop-row l = some_matches (map (map literal_of) l.rows) (map (bit_at l.bits) l.places) ≡ some_matches (map (map literal_of) (drop l.row-index l.rows)) (map (bit_at l.bits) l.places)
