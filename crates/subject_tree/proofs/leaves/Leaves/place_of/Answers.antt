use Rattle.subject_tree.proofs.Naming.{put-different, put-keeps_names}
use Rattle.subject_tree.proofs.leaves.Leaves.place_of.Goals as goal

pub invariant_of-self-2 : goal.invariant_of-self-2
invariant_of-self-2 c =
    put-different c.self.inside.names.keys c.insert_full.new.self.keys c.args.name c.in_ok-place.ensures.keys c.self.invariant

pub returns-clause-kept : goal.returns-clause-kept
returns-clause-kept c =
    rw (← c.self.view_is) (put-keeps_names c.self.inside.names.keys c.insert_full.new.self.keys c.args.name c.in_ok-place.ensures.keys)
