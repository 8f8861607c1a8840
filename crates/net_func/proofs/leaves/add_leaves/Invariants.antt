use Rattle.std.proofs.Common.{take, bytes_eq}
use Rattle.indexmap.specs.IndexMap.{get}
use Rattle.net_func.specs.Numbering.{number_in, is_free_leaf, FitsLeaves}
use Rattle.net_func.proofs.Adding.{IsAdding}
use Rattle.net_func.proofs.leaves.add_leaves.Given as goal

-- the leaves so far have their numbers
abbrev pub invariant-loop-place : goal.invariant-loop-place
invariant-loop-place g l =
    IsAdding g.F.Functions.holds g.F.Functions.tree g.F.Functions.limit l.fn.functions l.functions
    (number_in l.fn.numbers) (number_in l.numbers)
    (is_free_leaf (take l.place l.leaves) (get bytes_eq l.places))
    (FitsLeaves l.leaves (get bytes_eq l.places))
