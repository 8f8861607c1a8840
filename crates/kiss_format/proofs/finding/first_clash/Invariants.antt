use Rattle.std.proofs.Common.{◌≡◌, take, drop}
use Rattle.circuit_model.specs.Clashes.{first_clash, clash_behind}
use Rattle.kiss_format.specs.Groups.{AreGroups}
use Rattle.kiss_format.proofs.finding.first_clash.Given as goal

abbrev pub invariant-loop-later : goal.invariant-loop-later
invariant-loop-later l = (first_clash l.rows ≡ clash_behind (take l.later l.rows) (drop l.later l.rows)) × AreGroups l.rows l.later l.groups.items
