use Rattle.std.proofs.Common.{arith}
use Rattle.state_code.proofs.CodesApart.{least_few}
use Rattle.state_code.proofs.codes.code_width.Goals as goal

pub returns-in-Natural-clause-bound : goal.returns-in-Natural-clause-bound
returns-in-Natural-clause-bound c = omega (arith, c.least_bits.ensures, least_few c.args.states)
