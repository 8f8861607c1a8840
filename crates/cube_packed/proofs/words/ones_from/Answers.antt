use Rattle.cube_packed.proofs.PlaneNext.{bits_before, bits_behind}
use Rattle.cube_packed.proofs.words.ones_from.Goals as goal

pub returns-clause-before : goal.returns-clause-before
returns-clause-before c = λ i lt. bits_before c.args.word c.args.bit i c.requires lt

pub returns-clause-behind : goal.returns-clause-behind
returns-clause-behind c = λ i le. bits_behind c.args.word c.args.bit i c.ranges.word.fits c.requires le
