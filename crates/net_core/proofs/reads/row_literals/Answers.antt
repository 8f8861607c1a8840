use Rattle.std.proofs.Common.{sym, ◌∙◌, arith}
use Rattle.net_core.proofs.Counting.{literals_same, literals_few}
use Rattle.net_core.proofs.reads.row_literals.Goals as goal

pub returns-clause-literals : goal.returns-clause-literals
returns-clause-literals g c = c.literal_count.ensures ∙ sym (literals_same _)

pub returns-clause-bound : goal.returns-clause-bound
returns-clause-bound g c = omega (arith, c.literal_count.ensures, literals_few (g.R.Row.literals c.args.row.now))
