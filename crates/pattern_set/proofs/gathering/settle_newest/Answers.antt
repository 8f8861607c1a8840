use Rattle.std.proofs.Common.{◌≡◌, [], rules}
use Rattle.pattern_set.proofs.Numbering.{none_settled}
use Rattle.pattern_set.proofs.gathering.settle_newest.Goals as goal

pub returns-clause-ok : goal.returns-clause-ok
returns-clause-ok c =
    let none : c.args.waiting.items ≡ [] = search rules in
    none_settled c.args.arena.now c.args.waiting.items c.new.result none c.new.ensures
