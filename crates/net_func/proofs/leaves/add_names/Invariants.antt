use Rattle.std.proofs.Common.{◌≡◌, ◌++◌, take}
use Rattle.net_func.proofs.leaves.add_names.Given as goal

-- the names so far
abbrev pub invariant-loop-name : goal.invariant-loop-name
invariant-loop-name l = l.names.items ≡ l.fn.names.items ++ take l.name-index l.more
