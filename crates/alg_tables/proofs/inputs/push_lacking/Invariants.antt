use Rattle.std.proofs.Common.{◌≡◌, ℕ, List, ◌++◌, take}
use Rattle.alg_tables.specs.Taking.{entries, lacking}
use Rattle.alg_tables.proofs.inputs.push_lacking.Given as goal

abbrev pub invariant-loop-i : goal.invariant-loop-i
invariant-loop-i l = (names : List (List ℕ)) → l.places ≡ entries names l.others → l.made ≡ l.initial.made ++ lacking names (take l.i l.others)
