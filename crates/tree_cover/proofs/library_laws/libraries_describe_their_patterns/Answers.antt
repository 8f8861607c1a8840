use Rattle.tree_cover.proofs.EachGate.{patterns_described}
use Rattle.tree_cover.proofs.library_laws.libraries_describe_their_patterns.Goals as goal

pub returns : goal.returns
returns c = patterns_described
