use Rattle.std.proofs.Common.{◌≡◌, ◌≤◌, length, take}
use Rattle.blif_models.specs.Instances.{frames_in}
use Rattle.blif_models.specs.Makings.{outside_all}
use Rattle.blif_models.proofs.made.outside_all.Given as goal

abbrev pub invariant-loop-left : goal.invariant-loop-left
invariant-loop-left l =
    (l.left ≤ length l.frames) × (outside_all (frames_in (take l.left l.frames)) l.name ≡ outside_all (frames_in l.frames) l.fn.signal)

abbrev pub decreases-loop-left : goal.decreases-loop-left
decreases-loop-left l = l.left
