use Rattle.pattern_set.proofs.Numbering.{sets_kept, combine_made}
use Rattle.pattern_set.proofs.gathering.combine.Goals as goal

pub operands_as-requires-2 : goal.operands_as-requires-2
operands_as-requires-2 c = (sets_kept c.args.arena.now c.operands_as.new.arena c.args.right.sets c.in_ok-lefts.ensures.kept c.requires.right).0

pub returns-clause-ok : goal.returns-clause-ok
returns-clause-ok c =
    combine_made c.args.kind c.args.arena.now c.operands_as.new.arena c.operands_as-2.new.arena c.args.left c.args.right c.in_ok-lefts.lefts c.in_ok-rights.rights c.in_ok-sets.sets c.in_ok-lefts.ensures.kept
    c.in_ok-rights.ensures.kept c.requires.right c.in_ok-lefts.ensures.ok c.in_ok-rights.ensures.ok c.in_ok-sets.ensures
