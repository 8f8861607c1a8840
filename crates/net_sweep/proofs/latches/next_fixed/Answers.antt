use Rattle.std.proofs.Common.{bytes_eq}
use Rattle.indexmap.specs.IndexMap.{get}
use Rattle.net_sweep.proofs.Latching.{placed_leads}
use Rattle.net_sweep.proofs.latches.next_fixed.Goals as goal

pub first_fixed-requires-clause-placed : goal.first_fixed-requires-clause-placed
first_fixed-requires-clause-placed c = placed_leads (get bytes_eq c.args.tracked.now.table_places) c.args.aliased.now.tables c.requires.differ c.requires.ready.placed
