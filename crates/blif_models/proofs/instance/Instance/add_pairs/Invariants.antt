use Rattle.std.proofs.Common.{◌≡◌, ◌++◌, map, take}
use Rattle.blif_models.specs.Flat.{pair_outside}
use Rattle.blif_models.specs.Instances.{instance_in}
use Rattle.blif_models.proofs.instance.Instance.add_pairs.Given as goal

abbrev pub invariant-loop-pair : goal.invariant-loop-pair
invariant-loop-pair l = l.out ≡ l.fn.out ++ map (pair_outside (instance_in l.self)) (take l.pair-index l.pairs)
