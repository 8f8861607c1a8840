use Rattle.std.proofs.Common.{subst}
use Rattle.net_extract.specs.Known.{AreSaved}
use Rattle.net_extract.proofs.known.changed_savings.Goals as goal

pub returns-in_ok-set-in-Some : goal.returns-in_ok-set-in-Some
returns-in_ok-set-in-Some g c = λ rule old there saved. c.in_ok-set-in-Some.ensures rule old there (subst (AreSaved rule c.args.work.now) c.in-Some.is saved)
