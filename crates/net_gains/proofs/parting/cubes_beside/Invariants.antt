use Rattle.std.proofs.Common.{◌≡◌, ◌++◌, drop, map}
use Rattle.net_gains.specs.Turning.{apart}
use Rattle.net_gains.proofs.parting.cubes_beside.Given as goal

abbrev pub invariant-loop-cube : goal.invariant-loop-cube
invariant-loop-cube l =
    map (λ cube. cube.items) l.made.items ++ apart (map (λ key. key.now) l.set.keys) (drop l.cube-index (map (λ cube. cube.items) l.cubes)) ≡ apart (map (λ key. key.now) l.set.keys) (map (λ cube. cube.items) l.cubes)
