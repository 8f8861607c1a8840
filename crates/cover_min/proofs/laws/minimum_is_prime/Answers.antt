use Rattle.cover_min.proofs.Minima.{prime-minimum}
use Rattle.cover_min.proofs.laws.minimum_is_prime.Goals as goal

pub returns : goal.returns
returns c = prime-minimum
