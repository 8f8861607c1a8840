use Rattle.std.proofs.Common.{drop, map}
use Rattle.net_gains.specs.Totals.{total_of}
use Rattle.net_gains.specs.Turning.{paired_products, IsPartly}
use Rattle.net_gains.proofs.pairs.note_paired_products.Given as goal

abbrev pub invariant-loop-place : goal.invariant-loop-place
invariant-loop-place l =
    IsPartly l.change (total_of l.fn.totals) (total_of l.totals) (λ cover. paired_products cover (map (λ cube. cube.items) l.cubes) (map (λ cube. cube.items) l.partners)) (λ cover. paired_products cover (drop l.place (map (λ cube. cube.items) l.cubes)) (drop l.place (map (λ cube. cube.items) l.partners)))
