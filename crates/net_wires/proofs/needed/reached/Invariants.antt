use Rattle.net_wires.proofs.Reached.{IsReaching}
use Rattle.net_wires.proofs.needed.reached.Given as goal

abbrev pub invariant-loop-next : goal.invariant-loop-next
invariant-loop-next l = IsReaching l.fn.roots.keys l.tables l.latches l.names.keys l.next
