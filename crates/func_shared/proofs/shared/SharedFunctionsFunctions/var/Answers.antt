use Rattle.std.proofs.Common.{arith, refl}
use Rattle.func_shared.proofs.Sharing.{shared_stays, shared_means, variable_tree}
use Rattle.func_shared.proofs.shared.SharedFunctionsFunctions.var.Goals as goal

pub returns-in_err-number-clause-stays : goal.returns-in_err-number-clause-stays
returns-in_err-number-clause-stays c =
    shared_stays _ _ _ refl c.variable.ensures.grows (omega arith) refl

pub returns-clause-ok : goal.returns-clause-ok
returns-clause-ok c =
    shared_means c.stand.new.self _ _ _ _ _ c.stand.ensures.nodes c.in_ok-number.ensures.ok
    c.stand.ensures.same
    c.stand.ensures.stands (variable_tree c.args.place c.in-Ok.place c.in-Ok.ensures.1)

pub returns-clause-stays : goal.returns-clause-stays
returns-clause-stays c =
    shared_stays _ _ _ c.stand.ensures.nodes c.variable.ensures.grows (omega arith)
    c.stand.ensures.limit
