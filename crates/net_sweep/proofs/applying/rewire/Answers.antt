use Rattle.std.proofs.Common.{Bool, not, ap}
use Rattle.net_sweep.proofs.applying.rewire.Goals as goal

pub change_readers-requires-clause-apart : goal.change_readers-requires-clause-apart
change_readers-requires-clause-apart c = ap (λ (b : Bool). not b) c.requires.apart
