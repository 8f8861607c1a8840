use Rattle.std.proofs.Common.{◌≡◌, List, ℕ, take, map}
use Rattle.circuit_model.specs.Names.{has}
use Rattle.net_gains.proofs.parting.set_of.Given as goal

abbrev pub invariant-loop-cube : goal.invariant-loop-cube
invariant-loop-cube l = (cube : List ℕ) → has (map (λ key. key.now) l.set.keys) cube ≡ has (take l.cube-index (map (λ cube. cube.items) l.cubes)) cube
