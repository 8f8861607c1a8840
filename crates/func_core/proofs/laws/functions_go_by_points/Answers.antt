use Rattle.func_core.proofs.Meanings.{IsTreeOf-same, IsBig-same}
use Rattle.func_core.proofs.laws.functions_go_by_points.Goals as goal

pub returns-clause-tree : goal.returns-clause-tree
returns-clause-tree c = IsTreeOf-same

pub returns-clause-big : goal.returns-clause-big
returns-clause-big c = IsBig-same
