use Rattle.net_decomp.proofs.Partly.{AreSignalled}
use Rattle.net_decomp.proofs.parting.signalled_rows.Given as goal

abbrev pub invariant-loop-row : goal.invariant-loop-row
invariant-loop-row g l = AreSignalled g.R.Row.literals l.width l.added l.number l.row-index l.rows l.made.items
