use Rattle.std.proofs.Common.{take}
use Rattle.map_net.specs.Covering.{Covering, AreTaken}
use Rattle.map_net.specs.Choosing.{IsChosen}
use Rattle.map_net.proofs.covers.covers_of.Given as goal

abbrev pub invariant-loop-root : goal.invariant-loop-root
invariant-loop-root l =
    (covering : Covering) → IsChosen covering l.nodes l.choices
    → AreTaken covering (take l.root-index l.roots) l.covers.items
