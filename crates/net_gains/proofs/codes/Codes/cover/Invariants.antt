use Rattle.std.proofs.Common.{◌≡◌, ℕ, true, take, map, Vec, Global}
use Rattle.cover_names.specs.Cubes.{is_over}
use Rattle.net_gains.specs.Codes.{coded, are_coded}
use Rattle.net_gains.proofs.codes.Codes.cover.Given as goal

abbrev pub invariant-loop-cube : goal.invariant-loop-cube
invariant-loop-cube l = record {
  numbers : are_coded l.self (map (λ (cube : Vec ℕ Global). cube.items) (take l.cube-index l.numbers)) ≡ true;
  known : is_over l.self l.cubes.items ≡ true;
  codes : coded l.self l.cubes.items ≡ map (λ (cube : Vec ℕ Global). cube.items) (take l.cube-index l.numbers);
}
