use Rattle.std.proofs.Common.{take}
use Rattle.net_sweep.proofs.Rewiring.{HasSet}
use Rattle.net_sweep.proofs.applying.set_tables.Given as goal

abbrev pub invariant-loop-i : goal.invariant-loop-i
invariant-loop-i l = HasSet l.places (take l.i l.places) l.tables l.fn.aliased l.aliased
