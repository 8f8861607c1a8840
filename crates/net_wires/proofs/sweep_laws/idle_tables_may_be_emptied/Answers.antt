use Rattle.net_wires.proofs.Idle.{emptied_sound, emptied_ends}
use Rattle.net_wires.proofs.sweep_laws.idle_tables_may_be_emptied.Goals as goal

pub returns-clause-sound : goal.returns-clause-sound
returns-clause-sound c = emptied_sound

pub returns-clause-ends : goal.returns-clause-ends
returns-clause-ends c = emptied_ends
