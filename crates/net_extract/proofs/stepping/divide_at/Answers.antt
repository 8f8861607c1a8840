use Rattle.std.proofs.lemmas.Result.{on_ok_weaker}
use Rattle.net_extract.proofs.Made.{none_set, made_bounded}
use Rattle.net_extract.proofs.stepping.divide_at.Goals as goal

pub returns-in-None-clause-divided : goal.returns-in-None-clause-divided
returns-in-None-clause-divided g c =
    let stays = rw c.in-None.is at c.in_ok-divided_at.ensures in
    none_set c.args.name.now c.args.cover.now c.args.work.now c.args.place stays

pub returns-in-Some-clause-bounded : goal.returns-in-Some-clause-bounded
returns-in-Some-clause-bounded g c =
    let is = rw c.in-Some.is at c.in_ok-divided_at.ensures in
    on_ok_weaker c.set_known.result (λ set_is. made_bounded c.args.name.now c.args.cover.now c.args.work.now c.set_known.new.work c.args.place c.in-Some.table is set_is) c.set_known.ensures.set
