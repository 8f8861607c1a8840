use Rattle.blif_models.specs.Contexts.{library_in, models_in}
use Rattle.blif_models.proofs.FirstLines.{some_ports}
use Rattle.blif_models.proofs.first_model.first_ports.Goals as goal

pub bounds-models-0 : goal.bounds-models-0
bounds-models-0 c = some_ports (library_in c.args.models.now) (models_in c.args.models.now) c.args.models.now.ports.now c.requires.ports c.requires.first
