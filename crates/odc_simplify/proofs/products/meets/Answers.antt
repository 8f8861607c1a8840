use Rattle.std.proofs.Common.{◌∙◌, sym}
use Rattle.std.proofs.lemmas.List.{length-map}
use Rattle.odc_simplify.specs.Held.{inputs_of, function_of}
use Rattle.odc_simplify.proofs.Points.{meets_answer}
use Rattle.odc_simplify.proofs.products.meets.Goals as goal

pub returns-clause-answer : goal.returns-clause-answer
returns-clause-answer g c = λ leaves over all.
    meets_answer leaves
    (inputs_of (g.F.Functions.tree c.args.functions.now) c.args.literals.now)
    (function_of (g.F.Functions.tree c.args.functions.now) c.args.f)
    (g.F.Functions.tree c.product_of.new.functions c.in_ok-product.product.0) c.is_zero.result
    (g.R.Row.literals c.args.row.now)
    (g.met.F.Functions.reduced c.product_of.new.functions c.in_ok-product.product.0
    c.in_ok-product.ensures.makes.made.stands)
    c.in_ok-product.ensures.makes.made.computes c.is_zero.ensures
    (c.requires.width ∙ sym (length-map c.args.literals.now
    (λ literal. function_of (g.F.Functions.tree c.args.functions.now) literal.positive)))
    over all
