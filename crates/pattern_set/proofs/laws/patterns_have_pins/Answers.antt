use Rattle.pattern_set.proofs.Pins.{pattern-pins}
use Rattle.pattern_set.proofs.laws.patterns_have_pins.Goals as goal

pub returns : goal.returns
returns c = pattern-pins
