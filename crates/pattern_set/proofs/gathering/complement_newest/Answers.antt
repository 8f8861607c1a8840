use Rattle.pattern_set.proofs.Numbering.{complement_taken}
use Rattle.pattern_set.proofs.gathering.complement_newest.Goals as goal

pub returns-in_ok-push_front-in-Some-clause-ok : goal.returns-in_ok-push_front-in-Some-clause-ok
returns-in_ok-push_front-in-Some-clause-ok c =
    complement_taken c.args.arena.now c.complement.new.arena c.in-Some.operands c.in_ok-made-in-Some.made c.pop_front.new.self.items c.push_front.new.self.items c.args.waiting.now.items c.in-Some.ensures.items c.requires
    c.in_ok-made-in-Some.ensures.kept c.in_ok-made-in-Some.ensures.ok c.in_ok-push_front-in-Some.ensures.items
