use Rattle.std.proofs.Common.{◌≡◌, take}
use Rattle.std.specs.List.{flat_map}
use Rattle.tree_cover.specs.Bindings.{bind}
use Rattle.tree_cover.proofs.matching.bind_each.Given as goal

abbrev pub invariant-loop-binding : goal.invariant-loop-binding
invariant-loop-binding l = l.made.items ≡ flat_map (bind l.pin l.number) (take l.binding-index l.bindings)
