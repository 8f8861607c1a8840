use Rattle.std.proofs.Common.{◌≡◌, length}
use Rattle.map_net.specs.Naming.{AreNewTo}
use Rattle.map_net.proofs.naming.next_names.Given as goal

abbrev pub invariant-loop-place : goal.invariant-loop-place
invariant-loop-place l =
    AreNewTo l.used.keys l.fn.start l.names.items l.start × (length l.names.items ≡ l._place)
