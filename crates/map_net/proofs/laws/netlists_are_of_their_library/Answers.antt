use Rattle.map_net.proofs.MappedNets.{mapped_placed, mapped_parted}
use Rattle.map_net.proofs.laws.netlists_are_of_their_library.Goals as goal

pub returns-clause-gates : goal.returns-clause-gates
returns-clause-gates c = mapped_placed

pub returns-clause-figures : goal.returns-clause-figures
returns-clause-figures c = mapped_parted
