use Rattle.std.proofs.lemmas.Result.{err_from_is_err_and}
use Rattle.net_decomp.proofs.Along.{along_begin, along_more, along_both, along_over, along_full}
use Rattle.net_decomp.proofs.decomposing.part_until_done.Goals as goal

pub loop-now-init : goal.loop-now-init
loop-now-init g c = record { nodes = c.requires.nodes; along = along_begin c.args.rule c.args.place c.args.work.now c.requires.sound c.requires.done }

pub part_once-requires : goal.part_once-requires
part_once-requires g c = record { sound = c.loop-now.invariant.along.sound; nodes = c.loop-now.invariant.nodes }

pub part_sum-requires : goal.part_sum-requires
part_sum-requires g c =
    let nodes = rw c.in-Some.is at c.in_ok-now.ensures.nodes in
    let parted = rw c.in-Some.is at c.in_ok-now.ensures.parted in
    let along = along_more c.args.rule c.args.place c.args.work.now c.loop-now.work c.part_once.new.work c.loop-now.invariant.along parted in
    record { sound = along.sound; nodes = nodes; done = along.done; tidy = parted.tidy }

pub loop-now-preserved : goal.loop-now-preserved
loop-now-preserved g c =
    let parted = rw c.in-Some.is at c.in_ok-now.ensures.parted in
    record {
      nodes = c.in_ok-count.ensures.0;
      along = along_both c.args.rule c.args.place c.args.place c.args.work.now c.part_once.new.work c.part_sum.new.work
          (along_more c.args.rule c.args.place c.args.work.now c.loop-now.work c.part_once.new.work c.loop-now.invariant.along parted) c.in_ok-count.ensures.1;
    }

pub returns-in_err-now-clause-full : goal.returns-in_err-now-clause-full
returns-in_err-now-clause-full g c =
    let p = err_from_is_err_and c.from_residual.result c.from_residual.ensures.1 in
    rw (p.1, p.2) (λ e. along_over c.args.rule c.args.place c.args.work.now c.loop-now.work c.loop-now.invariant.along (c.in_err-now.ensures.over e))

pub returns-in_err-count-clause-full : goal.returns-in_err-count-clause-full
returns-in_err-count-clause-full g c =
    let parted = rw c.in-Some.is at c.in_ok-now.ensures.parted in
    let p = err_from_is_err_and c.from_residual-in_err-count.result c.from_residual-in_err-count.ensures.1 in
    rw (p.1, p.2)
    (λ e. along_full c.args.rule c.args.place c.args.work.now c.part_once.new.work
    (along_more c.args.rule c.args.place c.args.work.now c.loop-now.work c.part_once.new.work c.loop-now.invariant.along parted) (c.in_err-count.ensures e))
