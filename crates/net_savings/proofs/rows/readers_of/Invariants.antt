use Rattle.std.proofs.Common.{take}
use Rattle.net_savings.specs.Indexed.{IncludeReaders}
use Rattle.net_savings.proofs.rows.readers_of.Given as goal

abbrev pub invariant-loop-name : goal.invariant-loop-name
invariant-loop-name g l = IncludeReaders l.work.slots (take l.name-index l.names) l.places.items
