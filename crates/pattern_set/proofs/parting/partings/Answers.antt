use Rattle.std.proofs.Common.{◌-◌, arith}
use Rattle.pattern_set.proofs.Numbering.{partings_more}
use Rattle.pattern_set.proofs.parting.partings.Goals as goal

pub loop-place-preserved : goal.loop-place-preserved
loop-place-preserved c = record {
  within = omega (arith, c.loop-place.invariant.within);
  made = partings_more c.args.places.now (c.loop-place.place - 1) c.loop-place.place c.loop-place.made.items c.as_slice.result.now c.in_ok-made-2.made.items (omega arith) c.loop-place.invariant.within c.as_slice.ensures.value
      c.loop-place.invariant.made c.in_ok-made-2.ensures;
}
