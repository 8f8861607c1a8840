use Rattle.std.proofs.Common.{◌||◌, take}
use Rattle.std.proofs.lemmas.List.{get_or_default}
use Rattle.net_resub.specs.Divisions.{is_among}
use Rattle.net_resub.specs.Pairs.{saving_at}
use Rattle.net_resub.proofs.Sets.{put_more}
use Rattle.net_resub.proofs.kept.put_all.Goals as goal

pub loop-division-preserved : goal.loop-division-preserved
loop-division-preserved g c = λ test is.
    put_more test (saving_at c.args.work.now.slots) c.args.come.now c.loop-division.division-index _ c.put_one.new.divisions c.loop-division-test.true (get_or_default c.args.come.now c.loop-division.division-index _ _ c.loop-division-test.true)
    (c.in_ok-put_one.ensures (λ division. test division || is_among (take c.loop-division.division-index c.args.come.now) division) (c.loop-division.invariant test is))
