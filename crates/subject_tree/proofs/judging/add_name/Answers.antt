use Rattle.subject_tree.proofs.Standing.{named_more}
use Rattle.subject_tree.proofs.judging.add_name.Goals as goal

pub returns : goal.returns
returns c = named_more c.args.names.now.keys c.insert_full.new.self.keys c.args.name.now c.in_ok-copy.field-0 c.in_ok-copy.ensures c.in_ok-_place.ensures.keys
