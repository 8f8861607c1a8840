use Rattle.map_net.proofs.MappedNets.{mapped_sound, mapped_kept, mapped_refines}
use Rattle.map_net.proofs.laws.netlists_stand_for_circuits.Goals as goal

pub returns-clause-sound : goal.returns-clause-sound
returns-clause-sound c = mapped_sound

pub returns-clause-kept : goal.returns-clause-kept
returns-clause-kept c = mapped_kept

pub returns-clause-refines : goal.returns-clause-refines
returns-clause-refines c = mapped_refines
