use Rattle.std.proofs.Common.{◌≡◌, map, drop}
use Rattle.circuit_model.specs.Levels.{bit_at}
use Rattle.sis_base.specs.Rows.{matches}
use Rattle.circuit_model.specs.Values.{literal_of}
use Rattle.circuit_model.proofs.simulation.row_matches.Given as goal

abbrev pub invariant-loop-i : goal.invariant-loop-i
invariant-loop-i l = matches (map literal_of l.row) (map (bit_at l.bits) l.places) ≡ matches (map literal_of (drop l.i l.row)) (map (bit_at l.bits) (drop l.i l.places))
