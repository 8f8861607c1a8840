use Rattle.std.proofs.Common.{◌-◌, length, arith, refl, ap, ◌∙◌}
use Rattle.blif_models.specs.Flat.{outside}
use Rattle.blif_models.specs.Instances.{instance_in}
use Rattle.blif_models.proofs.Making.{frame_begins, frame_more, frame_none}
use Rattle.blif_models.proofs.made.outside_all.Goals as goal

pub loop-left-init : goal.loop-left-init
loop-left-init c = frame_begins c.args.frames.now (length c.args.frames.now) c.in_ok-name.name c.args.signal.now refl c.in_ok-name.ensures

pub loop-left-preserved : goal.loop-left-preserved
loop-left-preserved c = (
  omega (arith, c.loop-left.invariant.0),
  frame_more c.args.frames.now c.loop-left.left (c.loop-left.left - 1) c.index-frames-left.result c.loop-left.name c.in_ok-outer.outer _ (omega (arith, c.loop-left-test.true)) c.loop-left.invariant.0 c.index-frames-left.is
      (c.in_ok-outer.ensures ∙ ap (outside (instance_in c.index-frames-left.result)) c.as_slice.ensures) c.loop-left.invariant.1,
)

pub returns : goal.returns
returns c = frame_none c.args.frames.now c.loop-left.left c.loop-left.name _ c.loop-left-test.false c.loop-left.invariant.1
