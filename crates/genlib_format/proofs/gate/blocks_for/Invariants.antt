use Rattle.std.proofs.Common.{◌≡◌, map, take}
use Rattle.genlib_format.specs.Reader.{block_for}
use Rattle.genlib_format.proofs.gate.blocks_for.Given as goal

abbrev pub invariant-loop-pin : goal.invariant-loop-pin
invariant-loop-pin l = l.made ≡ map (block_for l.lines) (take l.pin-index l.pins)
