use Rattle.std.proofs.Common.{◌≡◌, map, vec_len}
use Rattle.alg_factor.specs.Forms.{Sum}
use Rattle.alg_factor.specs.Shapes.{shape}
use Rattle.alg_factor.specs.Chains.{chain_form}
use Rattle.alg_factor.proofs.factoring.chain.Given as goal

abbrev pub invariant-loop-product : goal.invariant-loop-product
invariant-loop-product g l =
    chain_form g.R.Row.literals l.left.items (shape g.R.Row.literals l.tree) ≡ chain_form g.R.Row.literals l.fn.products.items (Sum (map g.R.Row.literals l.fn.rest.items))

abbrev pub decreases-loop-product : goal.decreases-loop-product
decreases-loop-product g l = vec_len l.left
