use Rattle.std.proofs.Common.{◌∙◌}
use Rattle.blif_models.proofs.PortSets.{lists_by}
use Rattle.blif_models.proofs.ports.lists.Goals as goal

pub returns : goal.returns
returns c = c.some_lists.ensures ∙ lists_by c.args.side c.args.text.now c.args.lines.now
