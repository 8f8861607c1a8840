use Rattle.std.proofs.Common.{sym, ap, ◌∙◌}
use Rattle.std.specs.Prelude.{is_none}
use Rattle.net_savings.proofs.ByDivision.{undivided_loss}
use Rattle.net_savings.proofs.saving.loss_of.Goals as goal

pub returns-in-None : goal.returns-in-None
returns-in-None g c = λ output.
    undivided_loss c.args.table.now c.args.cover.now c.args.name.now output
    (sym (ap is_none c.in-None.is) ∙ c.in_ok-division_of.ensures.exact output)
