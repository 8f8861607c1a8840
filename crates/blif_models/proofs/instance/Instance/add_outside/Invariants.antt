use Rattle.std.proofs.Common.{◌≡◌, ◌++◌, map, take}
use Rattle.blif_models.specs.Flat.{outside}
use Rattle.blif_models.specs.Instances.{instance_in}
use Rattle.blif_models.proofs.instance.Instance.add_outside.Given as goal

abbrev pub invariant-loop-signal : goal.invariant-loop-signal
invariant-loop-signal l = l.out ≡ l.fn.out ++ map (outside (instance_in l.self)) (take l.signal-index l.signals)
