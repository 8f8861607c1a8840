use Rattle.std.proofs.Common.{List, ℕ, length, bit_or, sym, ap, ◌∙◌}
use Rattle.std.specs.Simd.Lanes.{zip2}
use Rattle.cube_packed.proofs.PlaneLiterals.{same_words, product_packed, points_by_literals}
use Rattle.cube_packed.proofs.row.PackedRowRow.product.Goals as goal

pub joined-requires : goal.joined-requires
joined-requires c =
    ap length c.as_slice.ensures
    ∙ same_words c.self.inside.width c.other.inside.width c.self.inside.words.items c.other.inside.words.items c.args.self.now c.args.other.now
    c.self.view_is c.other.view_is c.self.invariant c.other.invariant c.requires.widths
    ∙ sym (ap length c.as_slice-2.ensures)

pub invariant_of-result : goal.invariant_of-result
invariant_of-result c =
    (product_packed c.self.inside.width c.other.inside.width c.self.inside.words.items c.other.inside.words.items c.in_ok-words.words.items c.args.self.now c.args.other.now
    c.self.view_is c.other.view_is c.self.invariant c.other.invariant c.requires.widths c.requires.intersect
    (c.in_ok-words.ensures ∙ ap (λ (ws : List ℕ). zip2 bit_or ws c.as_slice-2.result.now) c.as_slice.ensures ∙ ap (zip2 bit_or c.self.inside.words.items) c.as_slice-2.ensures)).1

pub returns-clause-by_literals : goal.returns-clause-by_literals
returns-clause-by_literals c =
    (product_packed c.self.inside.width c.other.inside.width c.self.inside.words.items c.other.inside.words.items c.in_ok-words.words.items c.args.self.now c.args.other.now
    c.self.view_is c.other.view_is c.self.invariant c.other.invariant c.requires.widths c.requires.intersect
    (c.in_ok-words.ensures ∙ ap (λ (ws : List ℕ). zip2 bit_or ws c.as_slice-2.result.now) c.as_slice.ensures ∙ ap (zip2 bit_or c.self.inside.words.items) c.as_slice-2.ensures)).0

pub returns-clause-points : goal.returns-clause-points
returns-clause-points c = points_by_literals c.args.self.now c.args.other.now _ c.requires.widths c.requires.intersect (returns-clause-by_literals c)
