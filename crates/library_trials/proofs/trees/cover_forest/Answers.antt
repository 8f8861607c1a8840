use Rattle.std.proofs.Common.{arith}
use Rattle.library_trials.proofs.trees.cover_forest.Goals as goal

pub best-requires-clause-sizes : goal.best-requires-clause-sizes
best-requires-clause-sizes c = λ n below. omega (arith, c.requires.sizes n below)

-- the pins of each choice are bound to lower numbers
pub put_covers-requires-clause-below : goal.put_covers-requires-clause-below
put_covers-requires-clause-below c = λ n choice at. (c.in_ok-choices.ensures.made n choice at).below
