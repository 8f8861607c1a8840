use Rattle.net_candidates.proofs.Keeping.{found_put}
use Rattle.net_candidates.proofs.shared.add_found.Goals as goal

pub returns-in_ok-insert : goal.returns-in_ok-insert
returns-in_ok-insert c = λ cover. found_put c.args.made.now.keys c.insert.new.self.keys c.args.found c.in-Some.cover c.in-Some.is c.in_ok-insert.ensures.keys cover
