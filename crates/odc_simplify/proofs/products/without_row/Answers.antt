use Rattle.std.proofs.Common.{rules, Err, ap, inl, inr}
use Rattle.func_core.specs.Numbers.{IsBig}
use Rattle.odc_simplify.specs.Held.{Makes}
use Rattle.odc_simplify.specs.Products.{IsBigAlong}
use Rattle.odc_simplify.proofs.Numbers.{failed}
use Rattle.odc_simplify.proofs.Walks.{carried, without_carried, neither, more_on_ok}
use Rattle.odc_simplify.proofs.products.without_row.Goals as goal

pub returns-in_err-product-clause-makes : goal.returns-in_err-product-clause-makes
returns-in_err-product-clause-makes g c =
    failed _ _ _ c.in_err-product.field-0.0 _ _ (search rules) (λ gone.
    inl (carried g.F.Functions.holds g.F.Functions.tree g.F.Functions.limit
    (λ limit f inputs. IsBigAlong limit f inputs (g.R.Row.literals c.args.row.now))
    c.args.functions.now c.everywhere.new.functions c.in_ok-all.all _ c.args.literals.now
    c.in_ok-all.ensures.stays c.requires.literals c.in_ok-all.ensures.made
    (c.in_err-product.ensures.makes.refused (ap Err gone))))

pub returns-clause-makes : goal.returns-clause-makes
returns-clause-makes g c =
    let last =
    without_carried g.F.Functions.holds g.F.Functions.tree g.F.Functions.limit
    (λ limit f. Makes (g.F.Functions.holds c.conjoin.new.functions)
    (g.F.Functions.tree c.conjoin.new.functions) c.conjoin.result f (IsBig limit f))
    c.args.functions.now c.everywhere.new.functions c.product_of.new.functions
    c.opposite.new.functions c.args.from c.in_ok-all.all c.in_ok-product.product
    c.in_ok-outside.outside c.args.literals.now (g.R.Row.literals c.args.row.now)
    c.requires.from c.requires.literals c.in_ok-all.ensures.stays c.in_ok-product.ensures.stays
    c.in_ok-outside.ensures.stays c.in_ok-all.ensures.made c.in_ok-product.ensures.makes.made
    c.in_ok-outside.ensures.made c.conjoin.ensures.makes in
    record {
      made = last.made;
      passed =
          more_on_ok _ _ c.conjoin.result
          (neither _ _
          (carried g.F.Functions.holds g.F.Functions.tree g.F.Functions.limit
          (λ limit f inputs. IsBigAlong limit f inputs (g.R.Row.literals c.args.row.now) → ⊥)
          c.args.functions.now c.everywhere.new.functions c.in_ok-all.all _ c.args.literals.now
          c.in_ok-all.ensures.stays c.requires.literals c.in_ok-all.ensures.made
          c.in_ok-product.ensures.makes.passed))
          last.passed;
      refused = λ h. inr (last.refused h);
    }
