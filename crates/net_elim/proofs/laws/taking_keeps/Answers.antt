use Rattle.net_elim.proofs.TakenIn.{own_unread, taking_reduced}
use Rattle.net_elim.proofs.Gathered.{put_reduced}
use Rattle.net_elim.proofs.laws.taking_keeps.Goals as goal

pub returns-clause-apart : goal.returns-clause-apart
returns-clause-apart c = own_unread

pub returns-clause-taken : goal.returns-clause-taken
returns-clause-taken c = taking_reduced

pub returns-clause-put : goal.returns-clause-put
returns-clause-put c = put_reduced
