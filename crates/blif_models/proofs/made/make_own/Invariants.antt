use Rattle.std.proofs.Common.{◌≡◌, drop}
use Rattle.blif_models.specs.Instances.{instance_in, frames_in}
use Rattle.blif_models.specs.Makings.{make_all, own_names}
use Rattle.blif_models.proofs.made.make_own.Given as goal

abbrev pub invariant-loop-signal : goal.invariant-loop-signal
invariant-loop-signal l =
    make_all l.made (own_names (frames_in l.frames) (instance_in l.instance) (drop l.signal-index l.signals))
    ≡ make_all l.fn.made (own_names (frames_in l.frames) (instance_in l.instance) l.signals)
