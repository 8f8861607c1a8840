use Rattle.tree_cover.proofs.EachGate.{cells_formed}
use Rattle.tree_cover.proofs.library_laws.cells_of_sound_libraries_are_well_formed.Goals as goal

pub returns : goal.returns
returns c gates cells are sound = cells_formed gates cells are sound.each
