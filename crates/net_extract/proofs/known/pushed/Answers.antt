use Rattle.net_extract.proofs.Gaining.{known_pushed}
use Rattle.net_extract.proofs.known.pushed.Goals as goal

pub returns-then-branch : goal.returns-then-branch
returns-then-branch g c =
    known_pushed c.args.table.now c.in-Some.gains c.push.new.self c.in_ok-push-in-Some.field-0 c.if-branch.true c.in_ok-push-in-Some.ensures.counted c.args.gains c.in_ok-push-in-Some.ensures.taken c.in-Some.is
