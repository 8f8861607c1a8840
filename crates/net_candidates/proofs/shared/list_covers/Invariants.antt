use Rattle.std.proofs.Common.{◌≡◌, ◌++◌}
use Rattle.net_candidates.proofs.shared.list_covers.Given as goal

abbrev pub invariant-loop-cover : goal.invariant-loop-cover
invariant-loop-cover l = l.made.items ++ l.cover-iterator ≡ l.initial.cover-iterator
