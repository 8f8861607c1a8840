use Rattle.std.proofs.Common.{◌≡◌, ◌≤◌, ◌++◌, ◌+◌, ◌-◌, drop, length}
use Rattle.std.specs.Prelude.{vec_len, vec_capacity}
use Rattle.net_gains.specs.CodedGains.{own}
use Rattle.net_gains.proofs.merging.own_parts.Given as goal

abbrev pub invariant-loop-i : goal.invariant-loop-i
invariant-loop-i l =
    (l.ours.items ++ own (drop l.i l.one) (drop l.j l.other) ≡ own l.one l.other)
    × (l.theirs.items ++ own (drop l.j l.other) (drop l.i l.one) ≡ own l.other l.one)
    × (l.i ≤ length l.one)
    × (l.j ≤ length l.other)
    × (vec_len l.ours ≤ l.i)
    × (vec_len l.theirs ≤ l.j)
    × (length l.one ≤ vec_capacity l.ours)
    × (length l.other ≤ vec_capacity l.theirs)

abbrev pub decreases-loop-i : goal.decreases-loop-i
decreases-loop-i l = (length l.one - l.i) + (length l.other - l.j)
