use Rattle.net_extract.proofs.Gaining.{known_set}
use Rattle.net_extract.proofs.known.changed.Goals as goal

pub returns-then-branch : goal.returns-then-branch
returns-then-branch g c =
    known_set c.args.table.now c.in-Some.gains c.set.new.self c.in_ok-set-in-Some.field-0 c.if-branch.true c.in_ok-set-in-Some.ensures.counted c.args.place c.args.gains c.in_ok-set-in-Some.ensures.taken c.in-Some.is
