use Rattle.std.proofs.Common.{[], ◌∷◌}
use Rattle.subject_tree.specs.Trees.{Leaf}
use Rattle.pattern_set.specs.Lists.{one}
use Rattle.pattern_set.proofs.Numbering.{newest_done}
use Rattle.pattern_set.proofs.gathering.put_leaf.Goals as goal

pub returns-clause-ok : goal.returns-clause-ok
returns-clause-ok c =
    newest_done c.args.arena.now c.leaf.new.arena c.in_ok-made.made c.args.waiting.now.items c.push_front.new.self.items (one (Leaf c.args.place ∷ [])) c.in_ok-made.ensures.kept c.requires c.in_ok-made.ensures.ok
    c.in_ok-push_front.ensures.items
