use Rattle.std.proofs.Common.{take}
use Rattle.net_readers.specs.Fanouts.{told, AreReaders}
use Rattle.net_wires.specs.Aliases.{inputs_at}
use Rattle.net_wires.proofs.aliased_tables.readers_of.Given as goal

abbrev pub invariant-loop-place : goal.invariant-loop-place
invariant-loop-place l = AreReaders (told l.readers) (inputs_at (take l.place l.tables))
