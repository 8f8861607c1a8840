use Rattle.std.proofs.Common.{◌≡◌, ◌++◌, take}
use Rattle.blif_models.specs.Flat.{lines_outside}
use Rattle.blif_models.specs.Instances.{instance_in}
use Rattle.blif_models.proofs.instance.Instance.add_lines.Given as goal

abbrev pub invariant-loop-line : goal.invariant-loop-line
invariant-loop-line l = l.out.items ≡ l.fn.out.items ++ lines_outside (instance_in l.self) (take l.line-index l.lines)
