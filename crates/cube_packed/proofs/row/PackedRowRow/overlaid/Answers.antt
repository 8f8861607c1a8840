use Rattle.std.proofs.Common.{◌≡◌, Bool, Option, List, IfOk, ap, ◌∙◌, subst}
use Rattle.cube_cover.specs.Covers.{product_of}
use Rattle.cube_packed.proofs.PlaneFree.{free_product, free_width, free_intersects}
use Rattle.cube_packed.proofs.row.PackedRowRow.overlaid.Goals as goal

pub product-requires-clause-widths : goal.product-requires-clause-widths
product-requires-clause-widths c = free_width c.args.self.now c.args.other.now _ c.requires c.in_ok-free.ensures

pub product-requires-clause-intersect : goal.product-requires-clause-intersect
product-requires-clause-intersect c = free_intersects c.args.self.now c.args.other.now _ c.requires c.in_ok-free.ensures

pub returns : goal.returns
returns c = subst (λ (made : List (Option Bool)). IfOk c.product.result (λ row. row ≡ made)) (ap (product_of c.args.self.now) c.in_ok-free.ensures ∙ free_product c.args.self.now c.args.other.now c.requires) c.product.ensures.by_literals
