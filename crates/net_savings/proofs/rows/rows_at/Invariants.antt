use Rattle.std.proofs.Common.{take}
use Rattle.net_savings.specs.Indexed.{AreTold}
use Rattle.net_savings.proofs.rows.rows_at.Given as goal

abbrev pub invariant-loop-place : goal.invariant-loop-place
invariant-loop-place g l = AreTold l.work (take l.place-index l.places) l.rows.items l.spans.items l.others.items
