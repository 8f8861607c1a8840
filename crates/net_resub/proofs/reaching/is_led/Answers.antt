use Rattle.std.proofs.Common.{sym}
use Rattle.net_core.proofs.Removals.{tables_differ}
use Rattle.net_work.specs.Placed.{circuit_of}
use Rattle.net_resub.proofs.Graph.{all_unled}
use Rattle.net_resub.proofs.reaching.is_led.Goals as goal

pub returns-then-reads_all : goal.returns-then-reads_all
returns-then-reads_all g c =
    sym (all_unled c.args.work.now.slots (tables_differ (circuit_of c.args.work.now) c.requires) c.requires.acyclic c.args.to c.args.from (c.reads_all.ensures c.if-reads_all.true))

pub reached-requires : goal.reached-requires
reached-requires g c = tables_differ (circuit_of c.args.work.now) c.requires
