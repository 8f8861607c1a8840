use Rattle.std.proofs.Common.{sym}
use Rattle.net_core.specs.Places.{written_of}
use Rattle.net_core.specs.Tables.{named}
use Rattle.net_elim.proofs.collapse_step.taken_from.Goals as goal

pub taken_at-requires-clause-apart : goal.taken_at-requires-clause-apart
unfolding named
taken_at-requires-clause-apart g c = c.requires.apart (written_of c.in-Some.inner.now) (sym c.in-Some.ensures.table)
