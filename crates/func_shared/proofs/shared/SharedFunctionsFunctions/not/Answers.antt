use Rattle.std.proofs.Common.{arith, refl}
use Rattle.std.proofs.lemmas.Result.{err_from_is_err_and}
use Rattle.func_shared.proofs.Sharing.{shared_stays, shared_means, complement_tree, complement_fits}
use Rattle.func_shared.proofs.shared.SharedFunctionsFunctions.not.Goals as goal

pub returns-in_err-number-clause-fits : goal.returns-in_err-number-clause-fits
returns-in_err-number-clause-fits c h =
    let p = err_from_is_err_and c.from_residual.result c.from_residual.ensures.1 in
    complement_fits c.args.self.now _ _ c.requires c.number_of.ensures.same
    (c.in_err-number.ensures.big (cc))

pub returns-in_err-number-clause-stays : goal.returns-in_err-number-clause-stays
returns-in_err-number-clause-stays c =
    shared_stays _ _ _ refl c.operate.ensures.grows (omega arith) refl

pub returns-clause-ok : goal.returns-clause-ok
returns-clause-ok c =
    shared_means c.stand.new.self _ _ _ _ _ c.stand.ensures.nodes c.in_ok-number.ensures.ok
    c.stand.ensures.same
    c.stand.ensures.stands (complement_tree c.args.self.now _ _ c.requires c.number_of.ensures.same)

pub returns-clause-stays : goal.returns-clause-stays
returns-clause-stays c =
    shared_stays _ _ _ c.stand.ensures.nodes c.operate.ensures.grows (omega arith)
    c.stand.ensures.limit
