use Rattle.alg_div.proofs.Laws.{parts-all, parts-apart}
use Rattle.alg_div.proofs.weak.quotient_parts.Goals as goal

pub returns : goal.returns
returns g c = record {
  all = parts-all c.args.f.now.width c.args.f.now.rows c.args.d.now.rows c.args.quotient.now.rows c.args.remainder.now.rows c.requires.quotient c.requires.remainder;
  apart = parts-apart c.args.f.now.rows c.args.d.now.rows c.args.quotient.now.rows c.args.remainder.now.rows c.requires.remainder;
}
