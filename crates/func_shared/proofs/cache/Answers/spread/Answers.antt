use Rattle.func_shared.proofs.cache.Answers.spread.Goals as goal

pub loop-place-preserved : goal.loop-place-preserved
loop-place-preserved c = record {
  kept = λ vs are. c.move_from.ensures.kept vs (c.loop-place.invariant.kept vs are);
  count = cc;
}
