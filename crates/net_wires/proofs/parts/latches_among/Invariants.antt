use Rattle.std.proofs.Common.{◌≡◌, take}
use Rattle.circuit_model.specs.Names.{has}
use Rattle.circuit_laws.specs.Edits.{latches_kept}
use Rattle.net_wires.proofs.parts.latches_among.Given as goal

abbrev pub invariant-loop-latch : goal.invariant-loop-latch
invariant-loop-latch l = l.made.items ≡ latches_kept (has l.signals.keys) (take l.latch-index l.latches)
