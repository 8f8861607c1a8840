use Rattle.std.proofs.Common.{arith, refl}
use Rattle.std.proofs.lemmas.Result.{err_from_is_err_and}
use Rattle.func_shared.proofs.Sharing.{shared_stays, operation_means, operation_big}
use Rattle.func_shared.proofs.shared.SharedFunctionsFunctions.operate.Goals as goal

pub returns-in_err-number-clause-big : goal.returns-in_err-number-clause-big
returns-in_err-number-clause-big c h =
    let p = err_from_is_err_and c.from_residual.result c.from_residual.ensures.1 in
    operation_big c.args.self.now c.args.operation _ _ _ _ c.requires.f c.requires.g
    c.number_of-left.ensures.same
    c.number_of-right.ensures.same (c.in_err-number.ensures.big (cc))

pub returns-in_err-number-clause-stays : goal.returns-in_err-number-clause-stays
returns-in_err-number-clause-stays c =
    shared_stays _ _ _ refl c.operate.ensures.grows (omega arith) refl

pub returns-clause-ok : goal.returns-clause-ok
returns-clause-ok c =
    operation_means c.args.self.now c.stand.new.self _ c.args.operation _ _ _ _ _ _ c.requires.f
    c.requires.g
    c.number_of-left.ensures.same c.number_of-right.ensures.same c.stand.ensures.nodes
    c.in_ok-number.ensures.ok
    c.stand.ensures.same c.stand.ensures.stands

pub returns-clause-stays : goal.returns-clause-stays
returns-clause-stays c =
    shared_stays _ _ _ c.stand.ensures.nodes c.operate.ensures.grows (omega arith)
    c.stand.ensures.limit
