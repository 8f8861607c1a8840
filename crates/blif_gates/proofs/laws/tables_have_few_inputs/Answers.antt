use Rattle.std.proofs.Common.{subst, length, ◌≤◌}
use Rattle.circuit_model.specs.declared.circuit.Table.{Table}
use Rattle.blif_gates.proofs.Told.{told, sound_found, few}
use Rattle.blif_gates.proofs.laws.tables_have_few_inputs.Goals as goal
use Rattle.sis_base.specs.declared.limits.TheConstants.{MAX_PINS}

pub returns : goal.returns
returns c library cell words table sound e =
    let t = told library cell words table e in
    subst (λ (table : Table). length table.inputs ≤ MAX_PINS) t.is (few t.gate words (sound_found library cell t.gate sound.each t.named))
