use Rattle.std.proofs.Common.{option_copied}
use Rattle.blif_models.proofs.RightTables.{tables_right}
use Rattle.blif_models.proofs.model_tables.model_tables.Goals as goal

pub returns-clause-right : goal.returns-clause-right
returns-clause-right c =
    tables_right (option_copied c.args.library) c.args.file.now.models c.in_ok-ports.ports.items c.in_ok-sizes.sizes.items c.in_ok-ports.ensures c.in_ok-sizes.ensures
