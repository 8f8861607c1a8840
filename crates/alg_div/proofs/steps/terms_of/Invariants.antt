use Rattle.std.proofs.Common.{length, map}
use Rattle.alg_div.specs.Steps.{IsPart}
use Rattle.alg_div.proofs.steps.terms_of.Given as goal

abbrev pub invariant-loop-number : goal.invariant-loop-number
invariant-loop-number g l =
    IsPart (length (g.R.Row.literals l.mask)) (map g.R.Row.literals l.f) (g.R.Row.literals l.first)
    (map g.R.Row.literals l.d) l.number (map g.R.Row.literals l.terms.items)
