use Rattle.blif_gates.proofs.Paired.{paired_once, once_paired}
use Rattle.blif_gates.proofs.laws.pairs_name_each_once.Goals as goal

pub returns : goal.returns
returns c gate words sound = (paired_once gate words sound, once_paired gate words sound)
