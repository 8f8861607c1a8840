use Rattle.std.proofs.Common.{take}
use Rattle.net_savings.proofs.Partners.{HaveReaders}
use Rattle.net_savings.proofs.sharing.readers_besides.Given as goal

abbrev pub invariant-loop-name : goal.invariant-loop-name
invariant-loop-name g l = HaveReaders l.work.slots l.left (take l.name-index l.names) l.places.items
