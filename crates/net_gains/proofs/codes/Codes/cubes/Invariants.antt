use Rattle.std.proofs.Common.{◌≡◌, ℕ, true, take, map, Vec, Global}
use Rattle.cover_names.specs.Cubes.{is_over}
use Rattle.net_gains.specs.Codes.{coded}
use Rattle.net_gains.proofs.codes.Codes.cubes.Given as goal

abbrev pub invariant-loop-cube : goal.invariant-loop-cube
invariant-loop-cube l = record {
  known : is_over l.self (take l.cube-index l.cubes) ≡ true;
  codes : map (λ (cube : Vec ℕ Global). cube.items) l.codes.items ≡ coded l.self (take l.cube-index l.cubes);
}
