use Rattle.blif_models.proofs.Controls.{adds_some}
use Rattle.blif_models.proofs.flat.add_driven.Goals as goal

pub returns : goal.returns
returns c = adds_some c.args.set.now.keys c.add_name.new.set.keys _ c.in_ok-driven.driven c.in-Some.name c.in-Some.is c.in_ok-driven.ensures c.in_ok-add_name.ensures
