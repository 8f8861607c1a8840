use Rattle.std.proofs.Common.{◌-◌, length}
use Rattle.func_shared.proofs.Visiting.{Walks}
use Rattle.func_shared.proofs.walking.count_within.Given as goal

abbrev pub invariant-loop-next : goal.invariant-loop-next
invariant-loop-next l = Walks l.table l.number l.limit l.seen.keys l.done

-- how many vertices the walk has not finished, if all were the tree's
abbrev pub decreases-loop-next : goal.decreases-loop-next
decreases-loop-next l = length l.table - l.done
