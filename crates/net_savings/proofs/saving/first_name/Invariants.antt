use Rattle.std.proofs.Common.{◌≡◌, take}
use Rattle.net_candidates.specs.Candidates.{literals_in}
use Rattle.net_savings.proofs.saving.first_name.Given as goal

abbrev pub invariant-loop-cube : goal.invariant-loop-cube
invariant-loop-cube l = literals_in (take l.cube-index l.cover) ≡ 0
