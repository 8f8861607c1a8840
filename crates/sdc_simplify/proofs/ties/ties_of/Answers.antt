use Rattle.net_core.specs.Places.{written_of}
use Rattle.net_core.specs.Tables.{named}
use Rattle.net_work.specs.Placed.{circuit_of}
use Rattle.sdc_simplify.proofs.Kept.{tied_further, tied_whole}
use Rattle.sdc_simplify.proofs.ties.ties_of.Goals as goal

pub loop-place-preserved : goal.loop-place-preserved
unfolding named
loop-place-preserved g c =
    tied_further (circuit_of c.args.work.now) (written_of c.args.entry.now) c.as_slice-input-items.result.now c.loop-place.place c.input-item.result c.loop-place.ties.items c.push_tie_at.new.ties.items
    c.as_slice-input-items.ensures c.loop-place-test.true c.input-item.is c.loop-place.invariant c.in_ok-push_tie_at.ensures

pub returns : goal.returns
unfolding named
returns g c =
    tied_whole (circuit_of c.args.work.now) (written_of c.args.entry.now) c.as_slice-input-items.result.now c.loop-place.place c.loop-place.ties.items c.as_slice-input-items.ensures c.loop-place-test.false c.loop-place.invariant
