use Rattle.std.proofs.Common.{take}
use Rattle.net_elim.proofs.Touched.{ArePartly}
use Rattle.net_elim.proofs.touching.touched_by.Given as goal

abbrev pub invariant-loop-reader : goal.invariant-loop-reader
invariant-loop-reader g l = ArePartly l.work.slots l.place (take l.reader-index l.reader-items) l.places.items
