use Rattle.blif_models.specs.Contexts.{library_in, models_in}
use Rattle.blif_models.proofs.RightTables.{tables_right}
use Rattle.blif_models.proofs.reading.tables_are_right.Goals as goal

pub returns : goal.returns
returns c =
    tables_right (library_in c.args.models.now) (models_in c.args.models.now) c.args.models.now.ports.now c.args.models.now.sizes.now c.requires.ports c.requires.sizes
