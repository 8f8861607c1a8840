use Rattle.pattern_set.proofs.Numbering.{combine_taken}
use Rattle.pattern_set.proofs.gathering.combine_newest.Goals as goal

pub returns-in_ok-push_front-in-Some-clause-ok : goal.returns-in_ok-push_front-in-Some-clause-ok
returns-in_ok-push_front-in-Some-clause-ok c =
    combine_taken c.args.kind c.args.arena.now c.combine.new.arena c.in-Some.two.left c.in-Some.two.right c.in_ok-made-in-Some.made c.take_two.new.waiting.items c.push_front.new.self.items c.args.waiting.now.items
    c.in-Some.ensures.some c.requires c.in_ok-made-in-Some.ensures.kept c.in_ok-made-in-Some.ensures.ok c.in_ok-push_front-in-Some.ensures.items
