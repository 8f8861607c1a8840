use Rattle.std.proofs.Common.{◌∙◌}
use Rattle.func_shared.proofs.Fitted.{fit_none}
use Rattle.func_shared.proofs.nodes.Nodes.shed.Goals as goal

pub returns-clause-fit : goal.returns-clause-fit
returns-clause-fit c limit fit = fit_none _ limit (c.drop.view_is ∙ c.new.ensures)
