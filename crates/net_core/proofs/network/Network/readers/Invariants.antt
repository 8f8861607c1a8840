use Rattle.std.proofs.Common.{◌≡◌, take}
use Rattle.net_core.specs.Places.{present}
use Rattle.net_core.specs.Reads.{readers_of}
use Rattle.net_core.proofs.network.Network.readers.Given as goal

abbrev pub invariant-loop-slot : goal.invariant-loop-slot
invariant-loop-slot g l = l.made.items ≡ readers_of (present (take l.slot-index l.slot-items)) l.name
