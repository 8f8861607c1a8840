use Rattle.std.proofs.Common.{sym, ap, ◌∙◌, arith}
use Rattle.alg_factor.specs.Shapes.{shape}
use Rattle.alg_factor.specs.Chains.{chain_form}
use Rattle.alg_factor.proofs.Chains.{chain_form-push, empty_list}
use Rattle.alg_factor.proofs.factoring.chain.Goals as goal

pub loop-product-preserved : goal.loop-product-preserved
loop-product-preserved g c =
    rw (c.in_ok-new.ensures.ok, c.in_ok-new-2.ensures.ok)
    (sym (chain_form-push g.R.Row.literals c.pop.new.self.items c.in-Some.product (shape g.R.Row.literals c.loop-product.tree))
    ∙ ap (λ products. chain_form g.R.Row.literals products (shape g.R.Row.literals c.loop-product.tree)) (sym c.in-Some.ensures.items)
    ∙ c.loop-product.invariant)

pub returns : goal.returns
unfolding chain_form
returns g c =
    ap (λ products. chain_form g.R.Row.literals products (shape g.R.Row.literals c.loop-product.tree)) (sym (empty_list c.loop-product.left.items (omega (arith, c.in_default.ensures.cases, c.loop-product.left.ok.0))))
    ∙ c.loop-product.invariant
