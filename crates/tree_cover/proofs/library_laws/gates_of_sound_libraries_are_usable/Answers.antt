use Rattle.tree_cover.proofs.EachGate.{gates_usable}
use Rattle.tree_cover.proofs.library_laws.gates_of_sound_libraries_are_usable.Goals as goal

pub returns : goal.returns
returns c vertices gates made have sound = gates_usable vertices gates made have sound.each
