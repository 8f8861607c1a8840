use Rattle.std.proofs.Common.{◌≡◌, length}
use Rattle.genlib_expr.specs.Machine.{inverted}
use Rattle.genlib_expr.proofs.reading.Reader.invert.Given as goal

abbrev pub invariant-loop-self : goal.invariant-loop-self
invariant-loop-self l = inverted l.self.nodes l.self.waiting ≡ inverted l.fn.self.nodes l.fn.self.waiting

abbrev pub decreases-loop-self : goal.decreases-loop-self
decreases-loop-self l = length l.self.waiting
