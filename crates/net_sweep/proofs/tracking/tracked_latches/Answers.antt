use Rattle.std.proofs.Common.{bytes_eq, refl, ap, ◌∙◌, subst}
use Rattle.std.specs.Ordering.{nat_cmp}
use Rattle.std.specs.BTreeSet.{contains}
use Rattle.indexmap.specs.IndexMap.{get}
use Rattle.net_sweep.specs.Latches.{left_at}
use Rattle.net_sweep.proofs.Enqueuing.{left_all, begun_beside, HasNoted}
use Rattle.net_sweep.proofs.tracking.tracked_latches.Goals as goal

pub returns-clause-ready : goal.returns-clause-ready
returns-clause-ready c =
    begun_beside c.args.circuit.now c.as_slice-latches.result.now c.as_slice-2.result.now c.in_ok-slots.slots.items (get bytes_eq c.in_ok-fanout.fanout) (get bytes_eq c.in_ok-tables.tables) c.in_ok-read.read.keys (contains nat_cmp c.in_ok-waiting.waiting)
    _ c.as_slice-2.ensures refl c.in_ok-slots.ensures c.in_ok-fanout.ensures.latches (subst (HasNoted (get bytes_eq c.in_ok-fanout.fanout)) c.as_slice.ensures c.in_ok-fanout.ensures.outputs) c.in_ok-tables.ensures c.in_ok-read.ensures c.in_ok-waiting.ensures

pub returns-clause-left : goal.returns-clause-left
returns-clause-left c = ap left_at c.in_ok-slots.ensures ∙ (left_all c.as_slice-latches.result.now ∙ c.as_slice-latches.ensures)
