use Rattle.circuit_laws.proofs.FixedSound.{sound_refines, sound_values}
use Rattle.circuit_laws.proofs.edits.fixing_refines.Goals as goal

pub returns-clause-refines : goal.returns-clause-refines
returns-clause-refines c = sound_refines

pub returns-clause-values : goal.returns-clause-values
returns-clause-values c = sound_values
