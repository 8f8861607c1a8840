use Rattle.std.proofs.Common.{map, take}
use Rattle.net_func.specs.Signals.{seen_among}
use Rattle.net_func.specs.Changes.{shown_by}
use Rattle.net_func.proofs.Making.{IsMaking}
use Rattle.net_func.proofs.seen.any_change.Given as goal

-- the changes so far are in the sum
abbrev pub invariant-loop-change : goal.invariant-loop-change
invariant-loop-change g l =
    IsMaking g.F.Functions.holds g.F.Functions.tree g.F.Functions.limit l.fn.functions l.functions
    l.seen
    (seen_among (take l.change-index (map (shown_by g.F.Functions.tree l.fn.functions) l.changes)))
