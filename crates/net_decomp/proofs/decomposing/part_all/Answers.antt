use Rattle.std.proofs.Common.{◌+◌, arith}
use Rattle.std.proofs.lemmas.Result.{err_from_is_err_and}
use Rattle.net_decomp.proofs.Along.{along_both, along_full, along_all}
use Rattle.net_decomp.proofs.decomposing.part_all.Goals as goal

pub loop-place-preserved : goal.loop-place-preserved
loop-place-preserved g c = record {
  nodes = c.in_ok-count.ensures.nodes;
  along = along_both c.args.rule c.loop-place.place (c.loop-place.place + 1) c.args.work.now c.loop-place.work c.part_until_done.new.work c.loop-place.invariant.along c.in_ok-count.ensures.along;
}

pub returns-in_err-count-clause-full : goal.returns-in_err-count-clause-full
returns-in_err-count-clause-full g c =
    let p = err_from_is_err_and c.from_residual.result c.from_residual.ensures.1 in
    rw (p.1, p.2) (λ e. along_full c.args.rule c.loop-place.place c.args.work.now c.loop-place.work c.loop-place.invariant.along (c.in_err-count.ensures.full e))

pub returns-clause-decomposed : goal.returns-clause-decomposed
returns-clause-decomposed g c =
    along_all c.args.rule c.loop-place.place c.args.work.now c.loop-place.work c.loop-place.invariant.along (omega (arith, c.len.ensures, c.loop-place-test.false))
