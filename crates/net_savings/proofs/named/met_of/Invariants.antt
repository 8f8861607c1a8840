use Rattle.std.proofs.Common.{◌≡◌, ◌++◌, filter, drop}
use Rattle.net_savings.specs.Meeting.{is_met}
use Rattle.net_savings.proofs.named.met_of.Given as goal

abbrev pub invariant-loop-cover : goal.invariant-loop-cover
invariant-loop-cover l = l.met.items ++ filter (is_met l.rows) (drop l.cover-index l.covers) ≡ filter (is_met l.rows) l.covers
