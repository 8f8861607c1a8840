use Rattle.std.proofs.Common.{◌∙◌}
use Rattle.net_core.specs.Tables.{named}
use Rattle.library_trials.proofs.Changes.{found_named}
use Rattle.library_trials.proofs.networks.has_table.Goals as goal

pub returns : goal.returns
returns c =
    c.is_some.ensures ∙ found_named c.args.network.now.tables c.args.name.now (λ table. named c.args.name.now table.now) c.table.result c.table.ensures.driver
