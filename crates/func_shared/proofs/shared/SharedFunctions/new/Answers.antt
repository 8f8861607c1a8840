use Rattle.func_shared.proofs.Fitted.{fit_none}
use Rattle.func_shared.proofs.shared.SharedFunctions.new.Goals as goal

pub invariant_of-result-clause-fit : goal.invariant_of-result-clause-fit
invariant_of-result-clause-fit c = fit_none _ c.args.limit c.new-nodes.ensures
