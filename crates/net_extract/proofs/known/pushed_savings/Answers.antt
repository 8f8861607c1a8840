use Rattle.std.proofs.Common.{subst}
use Rattle.net_extract.specs.Known.{AreSaved}
use Rattle.net_extract.proofs.known.pushed_savings.Goals as goal

pub returns-in_ok-push-in-Some : goal.returns-in_ok-push-in-Some
returns-in_ok-push-in-Some g c = λ rule output saved. c.in_ok-push-in-Some.ensures rule output (subst (AreSaved rule c.args.work.now) c.in-Some.is saved)
