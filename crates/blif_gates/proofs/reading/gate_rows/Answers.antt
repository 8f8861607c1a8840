use Rattle.blif_gates.specs.GateLines.{gate_rows}
use Rattle.blif_gates.proofs.Characters.{rows_are}
use Rattle.blif_gates.proofs.reading.gate_rows.Goals as goal

pub returns : goal.returns
unfolding gate_rows
returns c = rows_are c.in_ok-rows.rows _ c.in_ok-rows.ensures
