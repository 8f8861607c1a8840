use Rattle.pattern_set.proofs.Values.{pattern-value}
use Rattle.pattern_set.proofs.laws.patterns_have_values.Goals as goal

pub returns : goal.returns
returns c value e t p = pattern-value value p
