use Rattle.subject_tree.proofs.Shrinking.{Pruned}
use Rattle.subject_tree.proofs.pruning.keep_small.Given as goal

abbrev pub invariant-loop-number : goal.invariant-loop-number
invariant-loop-number l = Pruned l.limit l.arena l.kept l.numbers.items l.number
