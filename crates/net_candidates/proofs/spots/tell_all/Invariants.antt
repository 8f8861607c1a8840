use Rattle.std.proofs.Common.{take}
use Rattle.net_candidates.specs.Spots.{told, AreTold}
use Rattle.net_candidates.proofs.spots.tell_all.Given as goal

abbrev pub invariant-loop-literal : goal.invariant-loop-literal
invariant-loop-literal l = AreTold (take l.literal-index l.cube) l.place (told l.fn.spots) (told l.spots)
