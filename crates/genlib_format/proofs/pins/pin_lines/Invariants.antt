use Rattle.std.proofs.Common.{◌≡◌, length, option_map}
use Rattle.genlib_format.specs.Pins.{pins_at, with_pins}
use Rattle.genlib_format.proofs.pins.pin_lines.Given as goal

abbrev pub invariant-loop-alloc : goal.invariant-loop-alloc
invariant-loop-alloc l = option_map (with_pins l.pins) (pins_at l.rest) ≡ pins_at l.fn.rest

abbrev pub decreases-loop-alloc : goal.decreases-loop-alloc
decreases-loop-alloc l = length l.rest
