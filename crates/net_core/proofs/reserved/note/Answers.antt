use Rattle.net_core.proofs.Noted.{has_put}
use Rattle.net_core.proofs.reserved.note.Goals as goal

pub returns : goal.returns
returns c = λ other. has_put c.args.names.now.keys c.insert_full.new.self.keys c.args.name.now c.in_ok-copy.field-0 c.in_ok-copy.ensures c.in_ok-insert_full.ensures.keys other
