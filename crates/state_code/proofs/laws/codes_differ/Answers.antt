use Rattle.state_code.proofs.CodesApart.{codes_differ}
use Rattle.state_code.proofs.laws.codes_differ.Goals as goal

pub returns : goal.returns
returns c = codes_differ
