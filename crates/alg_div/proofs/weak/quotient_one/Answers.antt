use Rattle.alg_div.proofs.Laws.{quotient-one}
use Rattle.alg_div.proofs.weak.quotient_one.Goals as goal

pub returns : goal.returns
returns g c = quotient-one c.args.f.now.width c.args.f.now.rows c.args.d.now.rows c.args.quotient.now.rows c.args.other.now.rows c.requires.quotient c.requires.other
