use Rattle.state_code.proofs.CodesApart.{least_enough, least_needed}
use Rattle.state_code.proofs.laws.least_bits_are_enough.Goals as goal

pub returns-clause-enough : goal.returns-clause-enough
returns-clause-enough c = least_enough

pub returns-clause-least : goal.returns-clause-least
returns-clause-least c = least_needed
