use Rattle.tree_cover.proofs.GateValuing.{usable_use_pins}
use Rattle.tree_cover.proofs.EachGate.{gates_usable}
use Rattle.tree_cover.proofs.library_laws.gates_of_sound_libraries_use_their_pins.Goals as goal

pub returns : goal.returns
returns c vertices gates made have sound = usable_use_pins vertices made (gates_usable vertices gates made have sound.each)
