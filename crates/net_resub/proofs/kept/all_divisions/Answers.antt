use Rattle.std.proofs.Common.{◌||◌, List, ltb, subst, arith}
use Rattle.net_resub.specs.Divisions.{is_among, HasJust}
use Rattle.net_resub.specs.Pairs.{saving_at}
use Rattle.net_resub.specs.declared.divisions.Division.{Division}
use Rattle.net_resub.proofs.Keeping.{all_none, all_more, all_there}
use Rattle.net_resub.proofs.kept.all_divisions.Goals as goal

pub loop-by-init : goal.loop-by-init
loop-by-init g c = all_none c.args.work.now.slots c.new-divisions.result c.new-divisions.ensures

pub loop-by-preserved : goal.loop-by-preserved
loop-by-preserved g c =
    all_more c.args.work.now.slots c.loop-by.by c.in_ok-come.come.items c.put_all.new.divisions c.in_ok-come.ensures
    (subst (λ (come : List Division). HasJust (λ division. ltb division.by c.loop-by.by || is_among come division) (saving_at c.args.work.now.slots) c.put_all.new.divisions) c.as_slice.ensures.value
    (c.in_ok-put_all.ensures (λ division. ltb division.by c.loop-by.by) c.loop-by.invariant))

pub returns : goal.returns
returns g c =
    all_there c.args.work.now.slots c.loop-by.by c.loop-by.divisions (let long = c.len-by-end.ensures in omega (arith, long, c.loop-by-test.false)) c.loop-by.invariant
