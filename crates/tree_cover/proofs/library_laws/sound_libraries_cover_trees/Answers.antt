use Rattle.tree_cover.proofs.EachGate.{covers_trees}
use Rattle.tree_cover.proofs.library_laws.sound_libraries_cover_trees.Goals as goal

pub returns : goal.returns
returns c vertices gates made have sound = covers_trees vertices gates made have sound.each
