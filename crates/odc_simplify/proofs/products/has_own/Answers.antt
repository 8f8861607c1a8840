use Rattle.std.proofs.Common.{rules, ◌≡◌, ◌∙◌, Err, map, ap, sym, inr}
use Rattle.std.proofs.lemmas.List.{length-map}
use Rattle.func_core.specs.declared.functions.FuncFault.TheVariants.{TooBig}
use Rattle.odc_simplify.specs.Held.{Gives, inputs_of, function_of}
use Rattle.odc_simplify.specs.Products.{outside, IsBigOutside}
use Rattle.odc_simplify.proofs.Points.{own_answer}
use Rattle.odc_simplify.proofs.Walks.{carried, neither}
use Rattle.odc_simplify.proofs.products.has_own.Goals as goal

pub returns-in_err-own-clause-refused : goal.returns-in_err-own-clause-refused
returns-in_err-own-clause-refused g c = λ h.
    let same : c.from_residual-in_err-own.result ≡ Err c.in_err-own.field-0.0 = search rules in
    let gone : c.in_err-own.field-0.0 ≡ TooBig = cc in
    inr (carried g.F.Functions.holds g.F.Functions.tree g.F.Functions.limit
    (λ limit f inputs. IsBigOutside limit f inputs (map g.R.Row.literals c.args.others.now))
    c.args.functions.now c.product_of.new.functions c.in_ok-product.product _ c.args.literals.now
    c.in_ok-product.ensures.stays c.requires.literals c.in_ok-product.ensures.makes.made
    (c.in_err-own.ensures.makes.refused (ap Err gone)))

pub returns-clause-answer : goal.returns-clause-answer
returns-clause-answer g c = λ leaves over all.
    own_answer leaves
    (inputs_of (g.F.Functions.tree c.args.functions.now) c.args.literals.now)
    (function_of (g.F.Functions.tree c.args.functions.now) c.args.f)
    (g.F.Functions.tree c.without_rows.new.functions c.in_ok-own.own.0) c.is_zero.result
    (g.R.Row.literals c.args.row.now) (map g.R.Row.literals c.args.others.now)
    (g.met.F.Functions.reduced c.without_rows.new.functions c.in_ok-own.own.0
    c.in_ok-own.ensures.makes.made.stands)
    (carried g.F.Functions.holds g.F.Functions.tree g.F.Functions.limit
    (λ limit f inputs. Gives (g.F.Functions.holds c.without_rows.new.functions)
    (g.F.Functions.tree c.without_rows.new.functions) c.in_ok-own.own
    (outside f inputs (map g.R.Row.literals c.args.others.now)))
    c.args.functions.now c.product_of.new.functions c.in_ok-product.product _ c.args.literals.now
    c.in_ok-product.ensures.stays c.requires.literals c.in_ok-product.ensures.makes.made
    c.in_ok-own.ensures.makes.made).computes
    c.is_zero.ensures
    (c.requires.width ∙ sym (length-map c.args.literals.now
    (λ literal. function_of (g.F.Functions.tree c.args.functions.now) literal.positive)))
    over all

pub returns-clause-passed : goal.returns-clause-passed
returns-clause-passed g c =
    neither _ _ c.in_ok-product.ensures.makes.passed
    (carried g.F.Functions.holds g.F.Functions.tree g.F.Functions.limit
    (λ limit f inputs. IsBigOutside limit f inputs (map g.R.Row.literals c.args.others.now) → ⊥)
    c.args.functions.now c.product_of.new.functions c.in_ok-product.product _ c.args.literals.now
    c.in_ok-product.ensures.stays c.requires.literals c.in_ok-product.ensures.makes.made
    c.in_ok-own.ensures.makes.passed)
