use Rattle.pattern_set.specs.Values.{HasLeaf}
use Rattle.tree_cover.proofs.GateValuing.{written-wired}
use Rattle.tree_cover.proofs.gate_laws.covers_are_wired.Goals as goal

pub returns : goal.returns
returns c cmp library t start signal gates uses written = written-wired cmp library uses (λ place. HasLeaf place t) t start signal gates written (λ leaf has. has)
