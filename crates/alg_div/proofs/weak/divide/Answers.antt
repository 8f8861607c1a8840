use Rattle.std.proofs.Common.{List, Option, Bool, map, ap, sym, refl, ◌∙◌}
use Rattle.alg_div.specs.Cubes.{products}
use Rattle.alg_div.proofs.Laws.{quotient-wide, others-wide, products-wide, width-moved}
use Rattle.alg_div.proofs.weak.divide.Goals as goal

pub products_of-requires : goal.products_of-requires
products_of-requires g c =
    width-moved _ _ _ _ c.requires (ap (map g.R.Row.literals) (sym c.as_slice.ensures.value)) (quotient-wide c.args.f.now.width _ _ _ c.in_ok-terms.ensures)

pub others_of-requires-clause-widths : goal.others_of-requires-clause-widths
others_of-requires-clause-widths g c =
    width-moved _ _ _ _ refl (sym (ap (map g.R.Row.literals) c.as_slice-3.ensures.value ∙ c.in_ok-taken.ensures ∙ ap (λ (x : List (List (Option Bool))). products x c.args.d.now.rows) (ap (map g.R.Row.literals) c.as_slice.ensures.value)))
    (products-wide c.args.f.now.width _ _ (quotient-wide c.args.f.now.width _ _ _ c.in_ok-terms.ensures) (width-moved _ _ _ _ (sym c.requires) refl c.rows-of_one_width.ensures.widths))

pub of-quotient-requires : goal.of-quotient-requires
of-quotient-requires g c =
    width-moved _ _ _ _ (sym c.width-width.ensures) refl (quotient-wide c.args.f.now.width _ _ _ c.in_ok-terms.ensures)

pub of-remainder-requires : goal.of-remainder-requires
of-remainder-requires g c =
    width-moved _ _ _ _ (sym c.width-width.ensures) (sym c.in_ok-rest.ensures) (others-wide c.args.f.now.width _ _ c.rows.ensures.widths)
